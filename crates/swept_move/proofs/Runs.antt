-- Motions that are parts of one motion: what the parts spare the whole spares, and the other way round. So a run of equal steps
-- keeps off an edge just where the one motion from its first place to its last does.
use Rattle.std.proofs.Common.{◌≡◌, inl, inr, ℕ, zero, suc, ◌≤◌, ℤ, pos, neg_ℤ, ◌+ℤ◌, ◌-ℤ◌, ◌*ℤ◌, ◌≤ℤ◌, ◌<ℤ◌, [], ◌∷◌, arith, ap, ap₂, sym, ◌∙◌}
use Rattle.std.proofs.lemmas.Int.{ints, by_lt_z}
use Rattle.integer_algebra.proofs.Ring.{ring, Term, V, K, M, ◌⊕◌, ◌⊖◌, ◌⊗◌}
use Rattle.integer_algebra.proofs.Order.{times_nonneg, times_pos, times_lt}
use Rattle.plane_exact.specs.Cone.{Cone}
use Rattle.plane_exact.specs.Distance.{square}
use Rattle.plane_exact.specs.Heights.{GridPlace}
use Rattle.plane_exact.specs.Plane.{RationalPoint, IsBetween}
use Rattle.plane_exact.specs.declared.point.Seg.{Seg}
use Rattle.engrave_model.specs.Removal.{Moment, between}
use Rattle.swept_move.specs.Motion.{KeepsOffBetween, RunLaw, Spares, place_after, sweep_between}
use Rattle.swept_move.specs.Sweep.{IsReached, sweep_depth}
use Rattle.swept_move.proofs.Motions.{deep_where_reached, depth_at, spares_edge, touches_or_keeps_off}

-- ---- a disc of which all numbers are c times as great is the same disc

closer_scaled : (sn sd c x y o D n X Y O D' N wx wy wo : ℤ) → pos 0 <ℤ c → X ≡ c *ℤ x → Y ≡ c *ℤ y → O ≡ c *ℤ o → D' ≡ c *ℤ D → N ≡ c *ℤ n
    → ((square (wx *ℤ o -ℤ x *ℤ wo) +ℤ square (wy *ℤ o -ℤ y *ℤ wo)) *ℤ square (sd *ℤ n)) <ℤ (square (sn *ℤ D) *ℤ square (o *ℤ wo))
    → ((square (wx *ℤ O -ℤ X *ℤ wo) +ℤ square (wy *ℤ O -ℤ Y *ℤ wo)) *ℤ square (sd *ℤ N)) <ℤ (square (sn *ℤ D') *ℤ square (O *ℤ wo))
closer_scaled sn sd c x y o D n X Y O D' N wx wy wo some ex ey eo ed en close =
    let once = times_pos c c some some in
    let scaled = times_lt ((c *ℤ c) *ℤ (c *ℤ c)) ((square (wx *ℤ o -ℤ x *ℤ wo) +ℤ square (wy *ℤ o -ℤ y *ℤ wo)) *ℤ square (sd *ℤ n)) (square (sn *ℤ D) *ℤ square (o *ℤ wo)) (times_pos (c *ℤ c) (c *ℤ c) once once) close in
    let xs = sn ∷ sd ∷ c ∷ x ∷ y ∷ o ∷ D ∷ n ∷ wx ∷ wy ∷ wo ∷ [] in
    let whole = (V 2 ⊗ V 2) ⊗ (V 2 ⊗ V 2) in
    let way = λ (w p : Term). w ⊗ (V 2 ⊗ V 5) ⊖ (V 2 ⊗ p) ⊗ V 10 in
    let was = λ (w p : Term). w ⊗ V 5 ⊖ p ⊗ V 10 in
    let far : (square (wx *ℤ O -ℤ X *ℤ wo) +ℤ square (wy *ℤ O -ℤ Y *ℤ wo)) *ℤ square (sd *ℤ N) ≡ ((c *ℤ c) *ℤ (c *ℤ c)) *ℤ ((square (wx *ℤ o -ℤ x *ℤ wo) +ℤ square (wy *ℤ o -ℤ y *ℤ wo)) *ℤ square (sd *ℤ n)) =
    ap₂ (λ a b. (square (wx *ℤ a -ℤ X *ℤ wo) +ℤ square (wy *ℤ a -ℤ Y *ℤ wo)) *ℤ square (sd *ℤ b)) eo en
    ∙ ap₂ (λ a b. (square (wx *ℤ (c *ℤ o) -ℤ a *ℤ wo) +ℤ square (wy *ℤ (c *ℤ o) -ℤ b *ℤ wo)) *ℤ square (sd *ℤ (c *ℤ n))) ex ey
    ∙ ring xs ((way (V 8) (V 3) ⊗ way (V 8) (V 3) ⊕ way (V 9) (V 4) ⊗ way (V 9) (V 4)) ⊗ ((V 1 ⊗ (V 2 ⊗ V 7)) ⊗ (V 1 ⊗ (V 2 ⊗ V 7))))
    (whole ⊗ ((was (V 8) (V 3) ⊗ was (V 8) (V 3) ⊕ was (V 9) (V 4) ⊗ was (V 9) (V 4)) ⊗ ((V 1 ⊗ V 7) ⊗ (V 1 ⊗ V 7)))) tt in
    let reach : square (sn *ℤ D') *ℤ square (O *ℤ wo) ≡ ((c *ℤ c) *ℤ (c *ℤ c)) *ℤ (square (sn *ℤ D) *ℤ square (o *ℤ wo)) =
    ap₂ (λ a b. square (sn *ℤ a) *ℤ square (b *ℤ wo)) ed eo
    ∙ ring xs (((V 0 ⊗ (V 2 ⊗ V 6)) ⊗ (V 0 ⊗ (V 2 ⊗ V 6))) ⊗ (((V 2 ⊗ V 5) ⊗ V 10) ⊗ ((V 2 ⊗ V 5) ⊗ V 10)))
    (whole ⊗ (((V 0 ⊗ V 6) ⊗ (V 0 ⊗ V 6)) ⊗ ((V 5 ⊗ V 10) ⊗ (V 5 ⊗ V 10)))) tt in
    omega (arith, ints)

-- at the moment s of the one motion the tip is where it is at the moment s' of the other, if c is above 0
pub record IsSameMoment (p q p' q' : GridPlace) (s s' : Moment) (c : ℤ) : Type 0 where
  pub some : pos 0 <ℤ c
  pub across : between s' p'.at.x q'.at.x ≡ c *ℤ between s p.at.x q.at.x
  pub up : between s' p'.at.y q'.at.y ≡ c *ℤ between s p.at.y q.at.y
  pub height : between s' p'.h q'.h ≡ c *ℤ between s p.h q.h
  pub whole : s'.n ≡ c *ℤ s.n

pub reached_there : (cone : Cone) (p q p' q' : GridPlace) (s s' : Moment) (c : ℤ) (w : RationalPoint) → IsSameMoment p q p' q' s s' c
    → IsReached cone (sweep_between p q) s w → IsReached cone (sweep_between p' q') s' w
reached_there cone p q p' q' s s' c w same reached =
    let D = sweep_depth (sweep_between p q) s in
    let D' = sweep_depth (sweep_between p' q') s' in
    let height = same.height in
    let here = depth_at p q s in
    let there = depth_at p' q' s' in
    let turned = ring (c ∷ between s p.h q.h ∷ []) (V 0 ⊗ M (V 1)) (M (V 0 ⊗ V 1)) tt in
    let deeper : D' ≡ c *ℤ D = (let e : D' ≡ c *ℤ neg_ℤ (between s p.h q.h) = omega (arith, ints) in e) ∙ ap (λ z. c *ℤ z) (sym here) in
    let below = times_pos c D same.some reached.deep in
    record {
      deep = omega (arith, ints);
      close = closer_scaled (pos cone.sn) (pos cone.sd) c _ _ s.n D s.n _ _ s'.n D' s'.n w.x w.y w.over same.some same.across same.up same.whole deeper same.whole reached.close;
    }

-- ---- a motion and the one back

-- the moment at which the tip is there on the way back
abbrev back : Moment → Moment
back s = record { k = s.n -ℤ s.k; n = s.n; start = (let finish = s.finish in omega (arith, ints)); finish = (let start = s.start in omega (arith, ints)); some = s.some }

same_back : (k n f l : ℤ) → (n -ℤ (n -ℤ k)) *ℤ l +ℤ (n -ℤ k) *ℤ f ≡ pos 1 *ℤ ((n -ℤ k) *ℤ f +ℤ k *ℤ l)
same_back k n f l = ring (k ∷ n ∷ f ∷ l ∷ []) ((V 1 ⊖ (V 1 ⊖ V 0)) ⊗ V 3 ⊕ (V 1 ⊖ V 0) ⊗ V 2) (K (pos 1) ⊗ ((V 1 ⊖ V 0) ⊗ V 2 ⊕ V 0 ⊗ V 3)) tt

reached_back : (cone : Cone) (p q : GridPlace) (s : Moment) (w : RationalPoint) → IsReached cone (sweep_between p q) s w → IsReached cone (sweep_between q p) (back s) w
reached_back cone p q s w = reached_there cone p q q p s (back s) (pos 1) w (record {
  some = omega (arith, ints);
  across = same_back s.k s.n p.at.x q.at.x;
  up = same_back s.k s.n p.at.y q.at.y;
  height = same_back s.k s.n p.h q.h;
  whole = ring (s.n ∷ []) (V 0) (K (pos 1) ⊗ V 0) tt;
})

pub spares_back : (cone : Cone) (p q : GridPlace) (w : RationalPoint) → Spares cone p q w → Spares cone q p w
spares_back cone p q w spares s reached = spares (back s) (reached_back cone q p s w reached)

-- ---- a motion in two parts

-- m divides the way from f to l as i to j
abbrev pub IsDividedAt : (i j f m l : ℤ) → Type 0
IsDividedAt i j f m l = (i +ℤ j) *ℤ m ≡ j *ℤ f +ℤ i *ℤ l

pub record IsJoinedAt (i j : ℤ) (p m q : GridPlace) : Type 0 where
  pub across : IsDividedAt i j p.at.x m.at.x q.at.x
  pub up : IsDividedAt i j p.at.y m.at.y q.at.y
  pub height : IsDividedAt i j p.h m.h q.h

divided_back : (i j f m l : ℤ) → IsDividedAt i j f m l → IsDividedAt j i l m f
divided_back i j f m l divided = ring (i ∷ j ∷ m ∷ []) ((V 1 ⊕ V 0) ⊗ V 2) ((V 0 ⊕ V 1) ⊗ V 2) tt ∙ divided ∙ ring (i ∷ j ∷ f ∷ l ∷ []) (V 1 ⊗ V 2 ⊕ V 0 ⊗ V 3) (V 0 ⊗ V 3 ⊕ V 1 ⊗ V 2) tt

pub joined_back : (i j : ℤ) (p m q : GridPlace) → IsJoinedAt i j p m q → IsJoinedAt j i q m p
joined_back i j p m q joined = record {
  across = divided_back i j p.at.x m.at.x q.at.x joined.across;
  up = divided_back i j p.at.y m.at.y q.at.y joined.up;
  height = divided_back i j p.h m.h q.h joined.height;
}

in_first : (i j k n f m l : ℤ) → IsDividedAt i j f m l → (n *ℤ i -ℤ k *ℤ (i +ℤ j)) *ℤ f +ℤ (k *ℤ (i +ℤ j)) *ℤ m ≡ i *ℤ ((n -ℤ k) *ℤ f +ℤ k *ℤ l)
in_first i j k n f m l divided =
    let xs = i ∷ j ∷ k ∷ n ∷ f ∷ m ∷ l ∷ [] in
    ring xs ((V 3 ⊗ V 0 ⊖ V 2 ⊗ (V 0 ⊕ V 1)) ⊗ V 4 ⊕ (V 2 ⊗ (V 0 ⊕ V 1)) ⊗ V 5) ((V 3 ⊗ V 0 ⊖ V 2 ⊗ (V 0 ⊕ V 1)) ⊗ V 4 ⊕ V 2 ⊗ ((V 0 ⊕ V 1) ⊗ V 5)) tt
    ∙ ap (λ z. (n *ℤ i -ℤ k *ℤ (i +ℤ j)) *ℤ f +ℤ k *ℤ z) divided
    ∙ ring xs ((V 3 ⊗ V 0 ⊖ V 2 ⊗ (V 0 ⊕ V 1)) ⊗ V 4 ⊕ V 2 ⊗ (V 1 ⊗ V 4 ⊕ V 0 ⊗ V 6)) (V 0 ⊗ ((V 3 ⊖ V 2) ⊗ V 4 ⊕ V 2 ⊗ V 6)) tt

-- the moment is one of the first part
reached_first : (cone : Cone) (i j : ℤ) (p m q : GridPlace) (w : RationalPoint) → pos 0 ≤ℤ j → IsJoinedAt i j p m q → (s : Moment) → pos 1 ≤ℤ i → (s.k *ℤ (i +ℤ j)) ≤ℤ (s.n *ℤ i)
    → Spares cone p m w → ¬ IsReached cone (sweep_between p q) s w
reached_first cone i j p m q w least_j joined s first early spares reached =
    let some = s.some in
    let least = times_pos s.n i (omega (arith, ints)) (omega (arith, ints)) in
    let s' : Moment = record { k = s.k *ℤ (i +ℤ j); n = s.n *ℤ i; start = times_nonneg s.k (i +ℤ j) s.start (omega (arith, ints)); finish = early; some = omega (arith, ints) } in
    spares s' (reached_there cone p q p m s s' i w (record {
      some = omega (arith, ints);
      across = in_first i j s.k s.n p.at.x m.at.x q.at.x joined.across;
      up = in_first i j s.k s.n p.at.y m.at.y q.at.y joined.up;
      height = in_first i j s.k s.n p.h m.h q.h joined.height;
      whole = ring (s.n ∷ i ∷ []) (V 0 ⊗ V 1) (V 1 ⊗ V 0) tt;
    }) reached)

module _ (cone : Cone) (i j : ℤ) (p m q : GridPlace) (w : RationalPoint) (least_i : pos 0 ≤ℤ i) (least_j : pos 0 ≤ℤ j) (long : pos 1 ≤ℤ (i +ℤ j)) (joined : IsJoinedAt i j p m q) where
  -- or of the second, which is the first of the way back
  reached_second : (s : Moment) → pos 1 ≤ℤ j → (s.n *ℤ i) ≤ℤ (s.k *ℤ (i +ℤ j)) → Spares cone m q w → ¬ IsReached cone (sweep_between p q) s w
  reached_second s second late spares reached =
      let sum = ring (s.k ∷ s.n ∷ i ∷ j ∷ []) ((V 1 ⊖ V 0) ⊗ (V 3 ⊕ V 2)) (V 1 ⊗ V 2 ⊕ V 1 ⊗ V 3 ⊖ V 0 ⊗ (V 2 ⊕ V 3)) tt in
      reached_first cone j i q m p w least_i (joined_back i j p m q joined) (back s) second (omega (arith, ints)) (spares_back cone m q w spares) (reached_back cone p q s w reached)

  -- it is one of the first where the second has no length, and one of the second where the first has none
  pub joined_spares : Spares cone p m w → Spares cone m q w → Spares cone p q w
  joined_spares before after s reached =
      let some = s.some in
      let finish = s.finish in
      let gone = times_nonneg s.k (i +ℤ j) s.start (omega (arith, ints)) in
      let left = times_nonneg (s.n -ℤ s.k) i (omega (arith, ints)) least_i in
      let sum = ring (s.k ∷ s.n ∷ i ∷ []) ((V 1 ⊖ V 0) ⊗ V 2) (V 1 ⊗ V 2 ⊖ V 0 ⊗ V 2) tt in
      by_lt_z (pos 0) i
      (λ first. by_lt_z (pos 0) j
      (λ second. by_lt_z (s.n *ℤ i) (s.k *ℤ (i +ℤ j))
      (λ late. reached_second s (omega (arith, ints)) (omega (arith, ints)) after reached)
      (λ early. reached_first cone i j p m q w least_j joined s (omega (arith, ints)) (omega (arith, ints)) before reached))
      (λ none. let all = ap (λ z. s.k *ℤ z) (let e : i +ℤ j ≡ i = omega (arith, ints) in e) in reached_first cone i j p m q w least_j joined s (omega (arith, ints)) (omega (arith, ints)) before reached))
      (λ none. let all = ap (λ z. s.n *ℤ z) (let e : i ≡ pos 0 = omega (arith, ints) in e) in reached_second s (omega (arith, ints)) (omega (arith, ints)) after reached)

-- ---- a run of equal steps

next_divides : (T T' x d : ℤ) → T' ≡ T +ℤ pos 1 → IsDividedAt T (pos 1) (x +ℤ pos 0 *ℤ d) (x +ℤ T *ℤ d) (x +ℤ T' *ℤ d)
next_divides T T' x d e =
    ring (T ∷ x ∷ d ∷ []) ((V 0 ⊕ K (pos 1)) ⊗ (V 1 ⊕ V 0 ⊗ V 2)) (K (pos 1) ⊗ (V 1 ⊕ K (pos 0) ⊗ V 2) ⊕ V 0 ⊗ (V 1 ⊕ (V 0 ⊕ K (pos 1)) ⊗ V 2)) tt
    ∙ ap (λ z. pos 1 *ℤ (x +ℤ pos 0 *ℤ d) +ℤ T *ℤ (x +ℤ z *ℤ d)) (sym e)

module _ (cone : Cone) (p d : GridPlace) (w : RationalPoint) where
  abbrev P : ℕ → GridPlace
  P t = place_after p d t

  pub run_spares : (n : ℕ) → ((t : ℕ) → t ≤ n → Spares cone (P t) (P (suc t)) w) → Spares cone (P 0) (P (suc n)) w
  run_spares zero steps = steps 0 (omega arith)
  run_spares (suc n) steps =
      let next : pos (suc (suc n)) ≡ pos (suc n) +ℤ pos 1 = omega (arith, ints) in
      joined_spares cone (pos (suc n)) (pos 1) (P 0) (P (suc n)) (P (suc (suc n))) w (omega (arith, ints)) (record { le = tt }) (omega (arith, ints)) (record {
        across = next_divides (pos (suc n)) (pos (suc (suc n))) p.at.x d.at.x next;
        up = next_divides (pos (suc n)) (pos (suc (suc n))) p.at.y d.at.y next;
        height = next_divides (pos (suc n)) (pos (suc (suc n))) p.h d.h next;
      }) (run_spares n (λ t l. steps t (omega arith))) (steps (suc n) (omega arith))

-- the moment k / n of the step from t to t' is one of the run up to T
in_run : (t t' T k n x d : ℤ) → t' ≡ t +ℤ pos 1
    → (n *ℤ T -ℤ (n *ℤ t +ℤ k)) *ℤ (x +ℤ pos 0 *ℤ d) +ℤ (n *ℤ t +ℤ k) *ℤ (x +ℤ T *ℤ d) ≡ T *ℤ ((n -ℤ k) *ℤ (x +ℤ t *ℤ d) +ℤ k *ℤ (x +ℤ t' *ℤ d))
in_run t t' T k n x d e =
    let gone = V 3 ⊗ V 0 ⊕ V 2 in
    ring (t ∷ T ∷ k ∷ n ∷ x ∷ d ∷ []) ((V 3 ⊗ V 1 ⊖ gone) ⊗ (V 4 ⊕ K (pos 0) ⊗ V 5) ⊕ gone ⊗ (V 4 ⊕ V 1 ⊗ V 5))
    (V 1 ⊗ ((V 3 ⊖ V 2) ⊗ (V 4 ⊕ V 0 ⊗ V 5) ⊕ V 2 ⊗ (V 4 ⊕ (V 0 ⊕ K (pos 1)) ⊗ V 5))) tt
    ∙ ap (λ z. T *ℤ ((n -ℤ k) *ℤ (x +ℤ t *ℤ d) +ℤ k *ℤ (x +ℤ z *ℤ d))) (sym e)

pub step_spares : (cone : Cone) (p d : GridPlace) (w : RationalPoint) (n t : ℕ) → t ≤ n
    → Spares cone (place_after p d 0) (place_after p d (suc n)) w → Spares cone (place_after p d t) (place_after p d (suc t)) w
step_spares cone p d w n t l spares s reached =
    let T = pos (suc n) in
    let some = s.some in
    let start = s.start in
    let finish = s.finish in
    let next : pos (suc t) ≡ pos t +ℤ pos 1 = omega (arith, ints) in
    let least = times_pos s.n T (omega (arith, ints)) (omega (arith, ints)) in
    let gone = times_nonneg s.n (pos t) (omega (arith, ints)) (omega (arith, ints)) in
    let rest = times_nonneg s.n (T -ℤ pos t -ℤ pos 1) (omega (arith, ints)) (omega (arith, ints)) in
    let sum = ring (s.n ∷ pos t ∷ T ∷ []) (V 0 ⊗ (V 2 ⊖ V 1 ⊖ K (pos 1))) (V 0 ⊗ V 2 ⊖ V 0 ⊗ V 1 ⊖ V 0) tt in
    let s' : Moment = record { k = s.n *ℤ pos t +ℤ s.k; n = s.n *ℤ T; start = omega (arith, ints); finish = omega (arith, ints); some = omega (arith, ints) } in
    spares s' (reached_there cone (place_after p d t) (place_after p d (suc t)) (place_after p d 0) (place_after p d (suc n)) s s' T w (record {
      some = omega (arith, ints);
      across = in_run (pos t) (pos (suc t)) T s.k s.n p.at.x d.at.x next;
      up = in_run (pos t) (pos (suc t)) T s.k s.n p.at.y d.at.y next;
      height = in_run (pos t) (pos (suc t)) T s.k s.n p.h d.h next;
      whole = ring (s.n ∷ T ∷ []) (V 0 ⊗ V 1) (V 1 ⊗ V 0) tt;
    }) reached)

-- ---- and so of the tests, by both laws

pub kept_spares : (cone : Cone) (p q : GridPlace) (e : Seg) (w : RationalPoint) → IsBetween e.a e.b w → KeepsOffBetween cone p q e → Spares cone p q w
kept_spares cone p q e w on kept s reached = spares_edge cone p q e (kept (deep_where_reached p q s reached.deep)) w on s reached

pub spared_keeps : (cone : Cone) (p q : GridPlace) (e : Seg) → 1 ≤ cone.sn → ((w : RationalPoint) → IsBetween e.a e.b w → Spares cone p q w) → KeepsOffBetween cone p q e
spared_keeps cone p q e steep spares deep =
    elim (touches_or_keeps_off cone p q e steep deep) [
      | inl touched ↦ absurd (spares touched.point touched.on touched.moment touched.reached)
      | inr passes ↦ passes
    ]

pub run_is_motion : RunLaw
run_is_motion cone p d n e steep = (
  (λ whole t l. spared_keeps cone _ _ e steep (λ w on. step_spares cone p d w n t l (kept_spares cone _ _ e w on whole))),
  (λ steps. spared_keeps cone _ _ e steep (λ w on. run_spares cone p d w n (λ t l. kept_spares cone _ _ e w on (steps t l)))),
)
