-- Motions over places that follow each other on a line: such a motion keeps off an edge just where its parts do.
use Rattle.std.proofs.Common.{◌≡◌, ℤ, pos, ◌+ℤ◌, ◌-ℤ◌, ◌*ℤ◌, ◌≤ℤ◌, [], ◌∷◌, arith, ap, sym, ◌∙◌}
use Rattle.std.proofs.lemmas.Int.{ints}
use Rattle.integer_algebra.proofs.Ring.{ring, V, ◌⊕◌, ◌⊖◌, ◌⊗◌}
use Rattle.integer_algebra.proofs.Order.{times_nonneg, times_pos}
use Rattle.plane_exact.specs.Cone.{Cone}
use Rattle.plane_exact.specs.Heights.{GridPlace}
use Rattle.plane_exact.specs.Plane.{RationalPoint}
use Rattle.engrave_model.specs.Removal.{Moment, between}
use Rattle.swept_move.specs.Motion.{IsOnWay, JoinLaw, Spares, SuccessiveLaw}
use Rattle.swept_move.proofs.Runs.{IsDividedAt, IsJoinedAt, joined_back, joined_spares, kept_spares, reached_there, spared_keeps, spares_back}

-- ---- the parts of a motion spare what it spares

-- the moment k / n of the first part is one of the whole
whole_first : (i j k n f m l : ℤ) → IsDividedAt i j f m l → (n *ℤ (i +ℤ j) -ℤ k *ℤ i) *ℤ f +ℤ (k *ℤ i) *ℤ l ≡ (i +ℤ j) *ℤ ((n -ℤ k) *ℤ f +ℤ k *ℤ m)
whole_first i j k n f m l divided =
    let xs = i ∷ j ∷ k ∷ n ∷ f ∷ m ∷ l ∷ [] in
    ring xs ((V 3 ⊗ (V 0 ⊕ V 1) ⊖ V 2 ⊗ V 0) ⊗ V 4 ⊕ (V 2 ⊗ V 0) ⊗ V 6) ((V 0 ⊕ V 1) ⊗ ((V 3 ⊖ V 2) ⊗ V 4) ⊕ V 2 ⊗ (V 1 ⊗ V 4 ⊕ V 0 ⊗ V 6)) tt
    ∙ ap (λ z. (i +ℤ j) *ℤ ((n -ℤ k) *ℤ f) +ℤ k *ℤ z) (sym divided)
    ∙ ring xs ((V 0 ⊕ V 1) ⊗ ((V 3 ⊖ V 2) ⊗ V 4) ⊕ V 2 ⊗ ((V 0 ⊕ V 1) ⊗ V 5)) ((V 0 ⊕ V 1) ⊗ ((V 3 ⊖ V 2) ⊗ V 4 ⊕ V 2 ⊗ V 5)) tt

first_spares : (cone : Cone) (i j : ℤ) (p m q : GridPlace) (w : RationalPoint) → pos 0 ≤ℤ i → pos 0 ≤ℤ j → pos 1 ≤ℤ (i +ℤ j) → IsJoinedAt i j p m q → Spares cone p q w → Spares cone p m w
first_spares cone i j p m q w least_i least_j long joined spares s reached =
    let some = s.some in
    let finish = s.finish in
    let least = times_pos s.n (i +ℤ j) (omega (arith, ints)) (omega (arith, ints)) in
    let gone = times_nonneg s.k i s.start least_i in
    let left = times_nonneg (s.n -ℤ s.k) i (omega (arith, ints)) least_i in
    let rest = times_nonneg s.n j (omega (arith, ints)) least_j in
    let sum = ring (s.k ∷ s.n ∷ i ∷ j ∷ []) (V 1 ⊗ (V 2 ⊕ V 3)) (V 0 ⊗ V 2 ⊕ (V 1 ⊖ V 0) ⊗ V 2 ⊕ V 1 ⊗ V 3) tt in
    let s' : Moment = record { k = s.k *ℤ i; n = s.n *ℤ (i +ℤ j); start = gone; finish = omega (arith, ints); some = omega (arith, ints) } in
    spares s' (reached_there cone p m p q s s' (i +ℤ j) w (record {
      some = omega (arith, ints);
      across = whole_first i j s.k s.n p.at.x m.at.x q.at.x joined.across;
      up = whole_first i j s.k s.n p.at.y m.at.y q.at.y joined.up;
      height = whole_first i j s.k s.n p.h m.h q.h joined.height;
      whole = ring (s.n ∷ i ∷ j ∷ []) (V 0 ⊗ (V 1 ⊕ V 2)) ((V 1 ⊕ V 2) ⊗ V 0) tt;
    }) reached)

-- the second part is the first of the way back
second_spares : (cone : Cone) (i j : ℤ) (p m q : GridPlace) (w : RationalPoint) → pos 0 ≤ℤ i → pos 0 ≤ℤ j → pos 1 ≤ℤ (i +ℤ j) → IsJoinedAt i j p m q → Spares cone p q w → Spares cone m q w
second_spares cone i j p m q w least_i least_j long joined spares =
    spares_back cone q m w (first_spares cone j i q m p w least_j least_i (omega (arith, ints)) (joined_back i j p m q joined) (spares_back cone p q w spares))

-- ---- a place on the way

divides : (s : Moment) (f m l : ℤ) → s.n *ℤ m ≡ between s f l → IsDividedAt s.k (s.n -ℤ s.k) f m l
divides s f m l on = ring (s.k ∷ s.n ∷ m ∷ []) ((V 0 ⊕ (V 1 ⊖ V 0)) ⊗ V 2) (V 1 ⊗ V 2) tt ∙ on

joins : (p q r : GridPlace) (on : IsOnWay p q r) → IsJoinedAt on.moment.k (on.moment.n -ℤ on.moment.k) p q r
joins p q r on = record {
  across = divides on.moment p.at.x q.at.x r.at.x on.across;
  up = divides on.moment p.at.y q.at.y r.at.y on.up;
  height = divides on.moment p.h q.h r.h on.height;
}

pub is_joined : JoinLaw
is_joined cone p q r e steep on =
    let s = on.moment in
    let j = s.n -ℤ s.k in
    let least = s.start in
    let finish = s.finish in
    let some = s.some in
    let rest : pos 0 ≤ℤ j = omega (arith, ints) in
    let long : pos 1 ≤ℤ (s.k +ℤ j) = omega (arith, ints) in
    let joined = joins p q r on in (
      (λ whole. (
        spared_keeps cone p q e steep (λ w at. first_spares cone s.k j p q r w least rest long joined (kept_spares cone p r e w at whole)),
        spared_keeps cone q r e steep (λ w at. second_spares cone s.k j p q r w least rest long joined (kept_spares cone p r e w at whole)),
      )),
      (λ parts. spared_keeps cone p r e steep (λ w at.
          joined_spares cone s.k j p q r w least rest long joined (kept_spares cone p q e w at parts.0) (kept_spares cone q r e w at parts.1))),
    )

-- ---- and of any number of places

pub are_joined : SuccessiveLaw
are_joined cone first p [] e steep on = ((λ whole. (whole, tt)), (λ parts. parts.0))
are_joined cone first p (q ∷ rest) e steep on =
    let join = is_joined cone first p q e steep on.0 in
    let later = are_joined cone first q rest e steep on.1 in (
      (λ whole. let parts = later.0 whole in let both = join.0 parts.0 in (both.0, (both.1, parts.1))),
      (λ parts. later.1 (join.1 (parts.0, parts.1.0), parts.1.1)),
    )
