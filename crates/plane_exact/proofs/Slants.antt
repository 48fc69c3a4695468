-- Two segments whose lines cross: the one point that both lines have, whether it is on both segments, and whether it is an end of both.
use Rattle.std.proofs.Common.{◌≡◌, ◌↔◌, subst, ℤ, pos, ◌-ℤ◌, ◌*ℤ◌, neg_ℤ, ◌≤ℤ◌, ◌<ℤ◌, ◌⊎◌, inl, inr, [], ◌∷◌, arith, refl, sym, ap, ◌∙◌}
use Rattle.std.proofs.lemmas.Int.{ints}
use Rattle.integer_algebra.proofs.Ring.{ring, Term, V, M, ◌⊕◌, ◌⊖◌, ◌⊗◌}
use Rattle.integer_algebra.proofs.Order.{times_nonneg, times_zero, cancel_same, sign_of_nonneg, sign_of_nonpos}
use Rattle.plane_exact.specs.Plane.{RationalPoint}
use Rattle.plane_exact.specs.Product.{cross_of}
use Rattle.plane_exact.specs.Meet.{IsSame, IsCommon, IsEndOfBoth, HasOne}
use Rattle.plane_exact.specs.declared.point.Seg.{Seg}
use Rattle.plane_exact.proofs.Places.{at, IsAt, between, by_heights, same_place, IsDirection, direction_of, at_end, end_at}

-- k / n is A / (A - B)
bounds : (k n A B : ℤ) → pos 0 ≤ℤ k → k ≤ℤ n → pos 1 ≤ℤ n → pos 0 <ℤ (A -ℤ B) → k *ℤ (A -ℤ B) ≡ n *ℤ A → (B ≤ℤ pos 0) × (pos 0 ≤ℤ A)
bounds k n A B start finish some h e =
    let p = times_nonneg k (A -ℤ B) start (omega (arith, ints)) in
    let q = times_nonneg (n -ℤ k) (A -ℤ B) (omega (arith, ints)) (omega (arith, ints)) in
    let split = ring (k ∷ n ∷ A ∷ B ∷ []) ((V 1 ⊖ V 0) ⊗ (V 2 ⊖ V 3)) (V 1 ⊗ V 2 ⊖ V 1 ⊗ V 3 ⊖ V 0 ⊗ (V 2 ⊖ V 3)) tt in
    (sign_of_nonpos n B (omega (arith, ints)) (omega (arith, ints)), sign_of_nonneg n A (omega (arith, ints)) (omega (arith, ints)))

-- the heights of a point over the first of two segments, and over the second, where their ends are the first eight atoms
abbrev over_first : Term → Term → Term
over_first x y = (V 2 ⊖ V 0) ⊗ (y ⊖ V 1) ⊖ (V 3 ⊖ V 1) ⊗ (x ⊖ V 0)

abbrev over_second : Term → Term → Term
over_second x y = (V 6 ⊖ V 4) ⊗ (y ⊖ V 5) ⊖ (V 7 ⊖ V 5) ⊗ (x ⊖ V 4)

module _ (s t : Seg) where
  -- both differences of heights are the cross product of the two ways
  heights : cross_of t.a t.b s.a -ℤ cross_of t.a t.b s.b ≡ cross_of s.a s.b t.b -ℤ cross_of s.a s.b t.a
  heights =
      let xs = s.a.x ∷ s.a.y ∷ s.b.x ∷ s.b.y ∷ t.a.x ∷ t.a.y ∷ t.b.x ∷ t.b.y ∷ [] in
      ring xs (over_second (V 0) (V 1) ⊖ over_second (V 2) (V 3)) (over_first (V 6) (V 7) ⊖ over_first (V 4) (V 5)) tt

  turns : (s.b.x -ℤ s.a.x) *ℤ (t.b.y -ℤ t.a.y) -ℤ (s.b.y -ℤ s.a.y) *ℤ (t.b.x -ℤ t.a.x) ≡ cross_of s.a s.b t.b -ℤ cross_of s.a s.b t.a
  turns =
      let xs = s.a.x ∷ s.a.y ∷ s.b.x ∷ s.b.y ∷ t.a.x ∷ t.a.y ∷ t.b.x ∷ t.b.y ∷ [] in
      ring xs ((V 2 ⊖ V 0) ⊗ (V 7 ⊖ V 5) ⊖ (V 3 ⊖ V 1) ⊗ (V 6 ⊖ V 4)) (over_first (V 6) (V 7) ⊖ over_first (V 4) (V 5)) tt

  turns_back : (t.b.x -ℤ t.a.x) *ℤ (s.b.y -ℤ s.a.y) -ℤ (t.b.y -ℤ t.a.y) *ℤ (s.b.x -ℤ s.a.x) ≡ cross_of s.a s.b t.a -ℤ cross_of s.a s.b t.b
  turns_back =
      let xs = s.a.x ∷ s.a.y ∷ s.b.x ∷ s.b.y ∷ t.a.x ∷ t.a.y ∷ t.b.x ∷ t.b.y ∷ [] in
      ring xs ((V 6 ⊖ V 4) ⊗ (V 3 ⊖ V 1) ⊖ (V 7 ⊖ V 5) ⊗ (V 2 ⊖ V 0)) (over_first (V 4) (V 5) ⊖ over_first (V 6) (V 7)) tt

  -- a point of both, where the lines are parallel, has both on one line
  pub on_one_line : (w : RationalPoint) → IsCommon s t w → cross_of s.a s.b t.a ≡ cross_of s.a s.b t.b → cross_of s.a s.b t.a ≡ pos 0
  on_one_line w on flat =
      let some = on.second.at.some in
      let e = by_heights t.a t.b s.a s.b w on.second on.first in
      let none : on.second.at.k *ℤ (cross_of s.a s.b t.a -ℤ cross_of s.a s.b t.b) ≡ pos 0 = ap (λ z. on.second.at.k *ℤ z) (no_difference flat) ∙ times_zero on.second.at.k in
      cancel_same on.second.at.n _ (pos 0) (omega (arith, ints)) (sym e ∙ none ∙ sym (times_zero on.second.at.n))
    where
      no_difference : {x y : ℤ} → x ≡ y → x -ℤ y ≡ pos 0
      no_difference e = omega (arith, ints)

  module _ (left : cross_of s.a s.b t.a <ℤ cross_of s.a s.b t.b) where
    some : pos 1 ≤ℤ (cross_of s.a s.b t.b -ℤ cross_of s.a s.b t.a)
    some = omega (arith, ints)

    -- the point of both lines
    abbrev joint : RationalPoint
    joint = at s.a s.b (cross_of t.a t.b s.a) (cross_of s.a s.b t.b -ℤ cross_of s.a s.b t.a) some

    on_first : IsAt s.a s.b (cross_of t.a t.b s.a) joint
    on_first = record { across = refl; up = refl }

    on_second : IsAt t.a t.b (neg_ℤ (cross_of s.a s.b t.a)) joint
    on_second =
        let xs = s.a.x ∷ s.a.y ∷ s.b.x ∷ s.b.y ∷ t.a.x ∷ t.a.y ∷ t.b.x ∷ t.b.y ∷ [] in
        let start = over_second (V 0) (V 1) in
        let from = over_first (V 4) (V 5) in
        let to = over_first (V 6) (V 7) in
        record {
          across = ring xs ((to ⊖ from) ⊗ V 0 ⊕ start ⊗ (V 2 ⊖ V 0)) ((to ⊖ from) ⊗ V 4 ⊕ M from ⊗ (V 6 ⊖ V 4)) tt;
          up = ring xs ((to ⊖ from) ⊗ V 1 ⊕ start ⊗ (V 3 ⊖ V 1)) ((to ⊖ from) ⊗ V 5 ⊕ M from ⊗ (V 7 ⊖ V 5)) tt;
        }

    only : (v : RationalPoint) → IsCommon s t v → IsSame v joint
    only v on = same_place s.a s.b v on.first _ _ some (ap (λ z. on.first.at.k *ℤ z) (sym heights) ∙ by_heights s.a s.b t.a t.b v on.first on.second)

    pub straddles_second : (w : RationalPoint) → IsCommon s t w → (cross_of t.a t.b s.b ≤ℤ pos 0) × (pos 0 ≤ℤ cross_of t.a t.b s.a)
    straddles_second w on =
        let turned = heights in
        let p = on.first in
        bounds p.at.k p.at.n (cross_of t.a t.b s.a) (cross_of t.a t.b s.b) p.at.start p.at.finish p.at.some (omega (arith, ints)) (by_heights s.a s.b t.a t.b w on.first on.second)

    pub straddles_first : (w : RationalPoint) → IsCommon s t w → (cross_of s.a s.b t.a ≤ℤ pos 0) × (pos 0 ≤ℤ cross_of s.a s.b t.b)
    straddles_first w on =
        let p = on.second in
        let F = cross_of s.a s.b t.a in
        let T = cross_of s.a s.b t.b in
        let xs = p.at.k ∷ p.at.n ∷ F ∷ T ∷ [] in
        let e = by_heights t.a t.b s.a s.b w on.second on.first in
        let back = ring xs (V 0 ⊗ (M (V 2) ⊖ M (V 3))) (M (V 0 ⊗ (V 2 ⊖ V 3))) tt in
        let over = ring xs (V 1 ⊗ M (V 2)) (M (V 1 ⊗ V 2)) tt in
        let h = bounds p.at.k p.at.n (neg_ℤ F) (neg_ℤ T) p.at.start p.at.finish p.at.some (omega (arith, ints)) (omega (arith, ints)) in
        let low = h.0 in
        let high = h.1 in
        (omega (arith, ints), omega (arith, ints))

    module _ (first : (cross_of s.a s.b t.a ≤ℤ pos 0) × (pos 0 ≤ℤ cross_of s.a s.b t.b)) (second : (cross_of t.a t.b s.b ≤ℤ pos 0) × (pos 0 ≤ℤ cross_of t.a t.b s.a)) where
      common : IsCommon s t joint
      common =
          let turned = heights in
          let f_low = first.0 in
          let f_high = first.1 in
          let s_low = second.0 in
          let s_high = second.1 in
          record {
            first = between s.a s.b _ joint s_high (omega (arith, ints)) on_first;
            second = between t.a t.b _ joint (omega (arith, ints)) (omega (arith, ints)) on_second;
          }

      ends : (cross_of s.a s.b t.a ≡ pos 0) ⊎ (cross_of s.a s.b t.b ≡ pos 0) → (cross_of t.a t.b s.a ≡ pos 0) ⊎ (cross_of t.a t.b s.b ≡ pos 0) → IsEndOfBoth s t joint
      ends f e = (at_end s.a s.b _ joint on_first (near e), at_end t.a t.b _ joint on_second (near_second f))
        where
          near : (cross_of t.a t.b s.a ≡ pos 0) ⊎ (cross_of t.a t.b s.b ≡ pos 0) → (cross_of t.a t.b s.a ≡ pos 0) ⊎ (cross_of t.a t.b s.a ≡ cross_of s.a s.b t.b -ℤ cross_of s.a s.b t.a)
          near (inl z) = inl z
          near (inr z) = let turned = heights in inr (omega (arith, ints))

          near_second : (cross_of s.a s.b t.a ≡ pos 0) ⊎ (cross_of s.a s.b t.b ≡ pos 0) → (neg_ℤ (cross_of s.a s.b t.a) ≡ pos 0) ⊎ (neg_ℤ (cross_of s.a s.b t.a) ≡ cross_of s.a s.b t.b -ℤ cross_of s.a s.b t.a)
          near_second (inl z) = inl (omega (arith, ints))
          near_second (inr z) = inr (omega (arith, ints))

      pub meet_at_ends : (cross_of s.a s.b t.a ≡ pos 0) ⊎ (cross_of s.a s.b t.b ≡ pos 0) → (cross_of t.a t.b s.a ≡ pos 0) ⊎ (cross_of t.a t.b s.b ≡ pos 0) → HasOne s t (IsEndOfBoth s t)
      meet_at_ends f e = record { point = joint; common = common; only = only; these = ends f e }

      pub meet_within : ¬ (((cross_of s.a s.b t.a ≡ pos 0) ⊎ (cross_of s.a s.b t.b ≡ pos 0)) × ((cross_of t.a t.b s.a ≡ pos 0) ⊎ (cross_of t.a t.b s.b ≡ pos 0))) → HasOne s t (λ w. ¬ IsEndOfBoth s t w)
      meet_within h = record { point = joint; common = common; only = only; these = (λ e. h (of_second (end_at t.a t.b _ joint on_second way_second e.1), of_first (end_at s.a s.b _ joint on_first way_first e.0))) }
        where
          way_first : IsDirection (s.b.x -ℤ s.a.x) (s.b.y -ℤ s.a.y)
          way_first = direction_of _ _ (t.b.x -ℤ t.a.x) (t.b.y -ℤ t.a.y) (λ z. let e = turns in absurd (omega (arith, ints)))

          way_second : IsDirection (t.b.x -ℤ t.a.x) (t.b.y -ℤ t.a.y)
          way_second = direction_of _ _ (s.b.x -ℤ s.a.x) (s.b.y -ℤ s.a.y) (λ z. let e = turns_back in absurd (omega (arith, ints)))

          of_first : (cross_of t.a t.b s.a ≡ pos 0) ⊎ (cross_of t.a t.b s.a -ℤ (cross_of s.a s.b t.b -ℤ cross_of s.a s.b t.a) ≡ pos 0) → (cross_of t.a t.b s.a ≡ pos 0) ⊎ (cross_of t.a t.b s.b ≡ pos 0)
          of_first (inl z) = inl z
          of_first (inr z) = let turned = heights in inr (omega (arith, ints))

          of_second : (neg_ℤ (cross_of s.a s.b t.a) ≡ pos 0) ⊎ (neg_ℤ (cross_of s.a s.b t.a) -ℤ (cross_of s.a s.b t.b -ℤ cross_of s.a s.b t.a) ≡ pos 0) → (cross_of s.a s.b t.a ≡ pos 0) ⊎ (cross_of s.a s.b t.b ≡ pos 0)
          of_second (inl z) = inl (omega (arith, ints))
          of_second (inr z) = inr (omega (arith, ints))

-- the answer about s turned round, as the answer about s
pub as_turned : {P : Type 0} (s t r : Seg) → r.a ≡ s.b → r.b ≡ s.a → P ↔ ((cross_of t.a t.b r.a ≤ℤ pos 0) × (pos 0 ≤ℤ cross_of t.a t.b r.b)) → P ↔ ((cross_of t.a t.b s.b ≤ℤ pos 0) × (pos 0 ≤ℤ cross_of t.a t.b s.a))
as_turned {P} s t r e f h = subst (λ q. P ↔ ((cross_of t.a t.b s.b ≤ℤ pos 0) × (pos 0 ≤ℤ cross_of t.a t.b q))) f (subst (λ q. P ↔ ((cross_of t.a t.b q ≤ℤ pos 0) × (pos 0 ≤ℤ cross_of t.a t.b r.b))) e h)
