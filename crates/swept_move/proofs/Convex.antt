-- A point between two that a move removes is removed: the places of the two moments have one between them that holds it.
use Rattle.std.proofs.Common.{◌≡◌, ℤ, pos, negsuc, neg_ℤ, ◌+ℤ◌, ◌-ℤ◌, ◌*ℤ◌, ◌≤ℤ◌, ◌<ℤ◌, [], ◌∷◌, arith, ap, sym, ◌∙◌}
use Rattle.std.proofs.lemmas.Int.{ints}
use Rattle.std.proofs.Math.IntN.{*ℤ_comm}
use Rattle.integer_algebra.proofs.Ring.{ring, V, times_plus, ◌⊕◌, ◌⊖◌, ◌⊗◌}
use Rattle.integer_algebra.proofs.Order.{square_nonneg, times_le, times_nonneg, times_pos}
use Rattle.plane_exact.specs.Cone.{Cone}
use Rattle.plane_exact.specs.Heights.{GridPlace}
use Rattle.plane_exact.specs.Plane.{RationalPoint}
use Rattle.engrave_model.specs.Removal.{tenfold}
use Rattle.plane_exact.specs.Plane.{IsOnPath}
use Rattle.swept_move.specs.Convex.{ConvexLaw}
use Rattle.swept_move.proofs.Cuts.{ReachesAt, removed_is, removes_is, some_weight}
use Rattle.swept_move.proofs.Dips.{mixed, near_of}
use Rattle.swept_move.proofs.Hits.{IsNear}
use Rattle.swept_move.proofs.Nappe.{lean_negative, near_same, near_whole}

-- ---- sums of near ways

at_most_minus : (c z : ℤ) → c <ℤ pos 0 → pos 0 ≤ℤ z → (c *ℤ z) ≤ℤ neg_ℤ z
at_most_minus c z low some = let p = times_le z c (negsuc 0) some (omega (arith, ints)) in let e = *ℤ_comm z c in omega (arith, ints)

mixed_low : (C H E s t : ℤ) → C <ℤ pos 0 → H <ℤ pos 0 → E <ℤ pos 0 → pos 0 ≤ℤ s → pos 0 ≤ℤ t → pos 0 <ℤ (s +ℤ t) → mixed C H E s t s t <ℤ pos 0
mixed_low C H E s t first both last s_sign t_sign some =
    let c = at_most_minus C (s *ℤ s) first (square_nonneg s) in
    let st = times_nonneg s t s_sign t_sign in
    let ts = times_nonneg t s t_sign s_sign in
    let h = at_most_minus H (s *ℤ t +ℤ t *ℤ s) both (omega (arith, ints)) in
    let e = at_most_minus E (t *ℤ t) last (square_nonneg t) in
    let whole = times_pos (s +ℤ t) (s +ℤ t) some some in
    let sum = ring (s ∷ t ∷ []) ((V 0 ⊕ V 1) ⊗ (V 0 ⊕ V 1)) (V 0 ⊗ V 0 ⊕ (V 0 ⊗ V 1 ⊕ V 1 ⊗ V 0) ⊕ V 1 ⊗ V 1) tt in
    omega (arith, ints)

near_mix : (Q R x y d x' y' d' s t : ℤ) → pos 0 ≤ℤ Q → IsNear Q R x y d → IsNear Q R x' y' d' → pos 0 ≤ℤ s → pos 0 ≤ℤ t → pos 0 <ℤ (s +ℤ t)
    → IsNear Q R (s *ℤ x +ℤ t *ℤ x') (s *ℤ y +ℤ t *ℤ y') (s *ℤ d +ℤ t *ℤ d')
near_mix Q R x y d x' y' d' s t q near near' s_sign t_sign some =
    let first = lean_negative Q R x y d x y d q near near in
    let both = lean_negative Q R x y d x' y' d' q near near' in
    let last = lean_negative Q R x' y' d' x' y' d' q near' near' in
    let below = near.below in
    let below' = near'.below in
    let p = times_nonneg s d s_sign (omega (arith, ints)) in
    let r = times_nonneg t d' t_sign (omega (arith, ints)) in
    near_of Q R x y d x' y' d' q s t (mixed_low _ _ _ s t first both last s_sign t_sign some) (omega (arith, ints))

-- ---- the weights of a place that holds the point between

-- the weight of an end, from its weights for the two points; j and j' are the sums of the weights for either
abbrev weight : (k n j j' l l' : ℤ) → ℤ
weight k n j j' l l' = j' *ℤ ((n -ℤ k) *ℤ l) +ℤ j *ℤ (k *ℤ l')

-- how much of the way from the one point counts, and of the way from the other
abbrev share : (j o p r : ℤ) → ℤ
share j o p r = o *ℤ (j *ℤ (p *ℤ r))

way_between : (k n l m l' m' f g a o b p c q : ℤ) → (n *ℤ (o *ℤ p)) *ℤ c ≡ q *ℤ ((n -ℤ k) *ℤ (p *ℤ a) +ℤ k *ℤ (o *ℤ b))
    → share (l' +ℤ m') q p (n -ℤ k) *ℤ (l *ℤ (o *ℤ f -ℤ a) +ℤ m *ℤ (o *ℤ g -ℤ a)) +ℤ share (l +ℤ m) q o k *ℤ (l' *ℤ (p *ℤ f -ℤ b) +ℤ m' *ℤ (p *ℤ g -ℤ b))
    ≡ (o *ℤ p) *ℤ (weight k n (l +ℤ m) (l' +ℤ m') l l' *ℤ (q *ℤ f -ℤ c) +ℤ weight k n (l +ℤ m) (l' +ℤ m') m m' *ℤ (q *ℤ g -ℤ c))
way_between k n l m l' m' f g a o b p c q on =
    let xs = k ∷ n ∷ l ∷ m ∷ l' ∷ m' ∷ f ∷ g ∷ a ∷ o ∷ b ∷ p ∷ c ∷ q ∷ [] in
    let rest = V 1 ⊖ V 0 in
    let first = V 2 ⊕ V 3 in
    let last = V 4 ⊕ V 5 in
    let L = last ⊗ (rest ⊗ V 2) ⊕ first ⊗ (V 0 ⊗ V 4) in
    let M = last ⊗ (rest ⊗ V 3) ⊕ first ⊗ (V 0 ⊗ V 5) in
    let ends = (V 9 ⊗ V 11) ⊗ (V 13 ⊗ (L ⊗ V 6 ⊕ M ⊗ V 7)) in
    ring xs
    ((V 13 ⊗ (last ⊗ (V 11 ⊗ rest))) ⊗ (V 2 ⊗ (V 9 ⊗ V 6 ⊖ V 8) ⊕ V 3 ⊗ (V 9 ⊗ V 7 ⊖ V 8))
    ⊕ (V 13 ⊗ (first ⊗ (V 9 ⊗ V 0))) ⊗ (V 4 ⊗ (V 11 ⊗ V 6 ⊖ V 10) ⊕ V 5 ⊗ (V 11 ⊗ V 7 ⊖ V 10)))
    (ends ⊖ (first ⊗ last) ⊗ (V 13 ⊗ (rest ⊗ (V 11 ⊗ V 8) ⊕ V 0 ⊗ (V 9 ⊗ V 10)))) tt
    ∙ ap (λ z. (o *ℤ p) *ℤ (q *ℤ (weight k n (l +ℤ m) (l' +ℤ m') l l' *ℤ f +ℤ weight k n (l +ℤ m) (l' +ℤ m') m m' *ℤ g)) -ℤ ((l +ℤ m) *ℤ (l' +ℤ m')) *ℤ z) (sym on)
    ∙ ring xs (ends ⊖ (first ⊗ last) ⊗ ((V 1 ⊗ (V 9 ⊗ V 11)) ⊗ V 12)) ((V 9 ⊗ V 11) ⊗ (L ⊗ (V 13 ⊗ V 6 ⊖ V 12) ⊕ M ⊗ (V 13 ⊗ V 7 ⊖ V 12))) tt

depth_between : (k n l m l' m' d e o p q : ℤ)
    → share (l' +ℤ m') q p (n -ℤ k) *ℤ (l *ℤ (o *ℤ d) +ℤ m *ℤ (o *ℤ e)) +ℤ share (l +ℤ m) q o k *ℤ (l' *ℤ (p *ℤ d) +ℤ m' *ℤ (p *ℤ e))
    ≡ (o *ℤ p) *ℤ (weight k n (l +ℤ m) (l' +ℤ m') l l' *ℤ (q *ℤ d) +ℤ weight k n (l +ℤ m) (l' +ℤ m') m m' *ℤ (q *ℤ e))
depth_between k n l m l' m' d e o p q =
    let xs = k ∷ n ∷ l ∷ m ∷ l' ∷ m' ∷ d ∷ e ∷ o ∷ p ∷ q ∷ [] in
    let rest = V 1 ⊖ V 0 in
    let first = V 2 ⊕ V 3 in
    let last = V 4 ⊕ V 5 in
    ring xs
    ((V 10 ⊗ (last ⊗ (V 9 ⊗ rest))) ⊗ (V 2 ⊗ (V 8 ⊗ V 6) ⊕ V 3 ⊗ (V 8 ⊗ V 7)) ⊕ (V 10 ⊗ (first ⊗ (V 8 ⊗ V 0))) ⊗ (V 4 ⊗ (V 9 ⊗ V 6) ⊕ V 5 ⊗ (V 9 ⊗ V 7)))
    ((V 8 ⊗ V 9) ⊗ ((last ⊗ (rest ⊗ V 2) ⊕ first ⊗ (V 0 ⊗ V 4)) ⊗ (V 10 ⊗ V 6) ⊕ (last ⊗ (rest ⊗ V 3) ⊕ first ⊗ (V 0 ⊗ V 5)) ⊗ (V 10 ⊗ V 7))) tt

-- ---- the point between, in the unit of the places

some_weights : (k n l l' j j' : ℤ) → pos 0 ≤ℤ k → k ≤ℤ n → pos 0 ≤ℤ l → pos 0 ≤ℤ l' → pos 0 ≤ℤ j → pos 0 ≤ℤ j' → pos 0 ≤ℤ weight k n j j' l l'
some_weights k n l l' j j' start finish l_sign l'_sign j_sign j'_sign =
    let p = times_nonneg j' ((n -ℤ k) *ℤ l) j'_sign (times_nonneg (n -ℤ k) l (omega (arith, ints)) l_sign) in
    let q = times_nonneg j (k *ℤ l') j_sign (times_nonneg k l' start l'_sign) in
    omega (arith, ints)

-- one of the shares isn't 0
some_share : (k n o p q j j' : ℤ) → pos 0 ≤ℤ k → k ≤ℤ n → pos 1 ≤ℤ n → pos 1 ≤ℤ o → pos 1 ≤ℤ p → pos 1 ≤ℤ q → pos 1 ≤ℤ j → pos 1 ≤ℤ j'
    → (pos 0 ≤ℤ share j' q p (n -ℤ k)) × (pos 0 ≤ℤ share j q o k) × (pos 0 <ℤ (share j' q p (n -ℤ k) +ℤ share j q o k))
some_share k n o p q j j' start finish some o_some p_some q_some j_some j'_some =
    let first = at_least (n -ℤ k) p j' (omega (arith, ints)) p_some j'_some in
    let last = at_least k o j start o_some j_some in
    let first_sign = times_nonneg q (j' *ℤ (p *ℤ (n -ℤ k))) (omega (arith, ints)) (omega (arith, ints)) in
    let last_sign = times_nonneg q (j *ℤ (o *ℤ k)) (omega (arith, ints)) (omega (arith, ints)) in
    let both = times_pos q (j' *ℤ (p *ℤ (n -ℤ k)) +ℤ j *ℤ (o *ℤ k)) (omega (arith, ints)) (omega (arith, ints)) in
    let sum = times_plus q (j' *ℤ (p *ℤ (n -ℤ k))) (j *ℤ (o *ℤ k)) in
    (first_sign, last_sign, omega (arith, ints))
  where
    more : (c z : ℤ) → pos 1 ≤ℤ c → pos 0 ≤ℤ z → z ≤ℤ (c *ℤ z)
    more c z c_some sign = let p = times_le z (pos 1) c sign c_some in let e = *ℤ_comm z c in omega (arith, ints)

    at_least : (r p j : ℤ) → pos 0 ≤ℤ r → pos 1 ≤ℤ p → pos 1 ≤ℤ j → r ≤ℤ (j *ℤ (p *ℤ r))
    at_least r p j r_sign p_some j_some = let a = more p r p_some r_sign in let b = more j (p *ℤ r) j_some (omega (arith, ints)) in omega (arith, ints)

reaches_between : (cone : Cone) (f g : GridPlace) (v w u : RationalPoint) → IsOnPath v w u → ReachesAt cone f g v → ReachesAt cone f g w → ReachesAt cone f g u
reaches_between cone f g v w u on at_v at_w =
    let k = on.at.k in
    let n = on.at.n in
    let l = at_v.l in
    let m = at_v.m in
    let l' = at_w.l in
    let m' = at_w.m in
    let o = v.over in
    let p = w.over in
    let q = u.over in
    let first = some_weight l m _ _ at_v.start at_v.finish at_v.near.below in
    let last = some_weight l' m' _ _ at_w.start at_w.finish at_w.near.below in
    let shares = some_share k n o p q (l +ℤ m) (l' +ℤ m') on.at.start on.at.finish on.at.some v.positive w.positive u.positive first last in
    let over = times_pos o p (let h = v.positive in omega (arith, ints)) (let h = w.positive in omega (arith, ints)) in
    record {
      l = weight k n (l +ℤ m) (l' +ℤ m') l l';
      m = weight k n (l +ℤ m) (l' +ℤ m') m m';
      start = some_weights k n l l' _ _ on.at.start on.at.finish at_v.start at_w.start (omega (arith, ints)) (omega (arith, ints));
      finish = some_weights k n m m' _ _ on.at.start on.at.finish at_v.finish at_w.finish (omega (arith, ints)) (omega (arith, ints));
      near = near_whole _ _ (o *ℤ p) _ _ _ over (near_same _ _ _ _ _ _ _ _
          (way_between k n l m l' m' f.at.x g.at.x v.x o w.x p u.x q on.across)
          (way_between k n l m l' m' f.at.y g.at.y v.y o w.y p u.y q on.up)
          (depth_between k n l m l' m' (neg_ℤ f.h) (neg_ℤ g.h) o p q)
          (near_mix _ _ _ _ _ _ _ _ _ _ (square_nonneg (pos cone.sd)) at_v.near at_w.near shares.0 shares.1 shares.2));
    }

-- ---- points of the drawing

tenfold_between : (v w u : RationalPoint) → IsOnPath v w u → IsOnPath (tenfold v) (tenfold w) (tenfold u)
tenfold_between v w u on = record {
  at = on.at;
  across = ten on.at.k on.at.n v.over w.over u.over v.x w.x u.x on.across;
  up = ten on.at.k on.at.n v.over w.over u.over v.y w.y u.y on.up;
}
  where
    ten : (k n o p q a b c : ℤ) → (n *ℤ (o *ℤ p)) *ℤ c ≡ q *ℤ ((n -ℤ k) *ℤ (p *ℤ a) +ℤ k *ℤ (o *ℤ b))
        → (n *ℤ (o *ℤ p)) *ℤ (pos 10 *ℤ c) ≡ q *ℤ ((n -ℤ k) *ℤ (p *ℤ (pos 10 *ℤ a)) +ℤ k *ℤ (o *ℤ (pos 10 *ℤ b)))
    ten k n o p q a b c e =
        let ten = pos 10 in
        ring (n ∷ o ∷ p ∷ c ∷ ten ∷ []) ((V 0 ⊗ (V 1 ⊗ V 2)) ⊗ (V 4 ⊗ V 3)) (V 4 ⊗ ((V 0 ⊗ (V 1 ⊗ V 2)) ⊗ V 3)) tt
        ∙ ap (λ z. ten *ℤ z) e
        ∙ ring (k ∷ n ∷ o ∷ p ∷ q ∷ a ∷ b ∷ ten ∷ []) (V 7 ⊗ (V 4 ⊗ ((V 1 ⊖ V 0) ⊗ (V 3 ⊗ V 5) ⊕ V 0 ⊗ (V 2 ⊗ V 6))))
        (V 4 ⊗ ((V 1 ⊖ V 0) ⊗ (V 3 ⊗ (V 7 ⊗ V 5)) ⊕ V 0 ⊗ (V 2 ⊗ (V 7 ⊗ V 6)))) tt

pub convex : ConvexLaw
convex cone mv v w u on at_v at_w =
    let reach = λ (z : RationalPoint). removed_is cone mv.from mv.to (tenfold z) in
    let there = λ (z : RationalPoint). removes_is cone mv.from mv.to z in
    (there u).1 ((reach u).1 (reaches_between cone mv.from mv.to (tenfold v) (tenfold w) (tenfold u) (tenfold_between v w u on)
    ((reach v).0 ((there v).0 at_v)) ((reach w).0 ((there w).0 at_w))))
