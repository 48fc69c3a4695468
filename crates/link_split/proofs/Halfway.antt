-- The node halfway between two: that it is one, and how the code's numbers give it.
use Rattle.std.specs.Int.{int_div_euclid}
use Rattle.std.specs.Prelude.{◌↔◌}
use Rattle.std.proofs.Common.{◌≡◌, inl, inr, ℕ, ◌≤◌, List, ℤ, pos, negsuc, ◌+ℤ◌, arith, ap, ap₂, subst, sym, ◌∙◌}
use Rattle.std.proofs.lemmas.Int.{ints}
use Rattle.plane_exact.proofs.Stored.{wide}
use Rattle.plane_exact.specs.Cone.{Cone}
use Rattle.plane_exact.specs.Nodes.{GridNode}
use Rattle.plane_exact.specs.Plane.{GridPoint, IsCoordinate}
use Rattle.plane_exact.specs.declared.point.Seg.{Seg}
use Rattle.engrave_model.specs.Depth.{IsGreatestDepth}
use Rattle.link_split.specs.Midway.{HasNoMidway, IsDeepest, IsHalf, IsHalfway, IsMidway, IsWithinOne}

same_half : (a b m n : ℤ) → IsHalf a b m → IsHalf a b n → m ≡ n
same_half a b m n one other =
    let low = one.low in
    let high = one.high in
    let least = other.low in
    let most = other.high in
    omega (arith, ints)

-- half the sum, as the code divides it
halved : (a b sum : ℤ) → sum ≡ a +ℤ b → IsHalf a b (int_div_euclid sum (pos 2))
halved a b (pos n) is = record { low = omega (arith, ints); high = omega (arith, ints) }
halved a b (negsuc n) is = record { low = omega (arith, ints); high = omega (arith, ints) }

pub stored_half : (a b sum half : ℤ) → IsCoordinate a → IsCoordinate b → sum ≡ a +ℤ b → half ≡ int_div_euclid sum (pos 2) → IsHalf a b (wide half)
stored_half a b sum half on_a on_b is quotient =
    let least_a = on_a.low in
    let most_a = on_a.high in
    let least_b = on_b.low in
    let most_b = on_b.high in
    let h = halved a b sum is in
    let low = h.low in
    let high = h.high in
    let plain : wide half ≡ int_div_euclid sum (pos 2) = omega (arith, ints) in
    subst (IsHalf a b) (sym plain) h

-- the same half of the same numbers
pub half_of_same : (a b m x y z : ℤ) → x ≡ a → y ≡ b → z ≡ m → IsHalf x y m → IsHalf a b z
half_of_same a b m x y z first second value half = subst (IsHalf a b) (sym value) (subst (λ t. IsHalf a t m) second (subst (λ t. IsHalf t y m) first half))

-- a test of the same numbers
pub within_same : (P : Type 0) (a b x y : ℤ) → x ≡ a → y ≡ b → P ↔ IsWithinOne x y → P ↔ IsWithinOne a b
within_same P a b x y first second test = subst (λ t. P ↔ IsWithinOne a t) second (subst (λ t. P ↔ IsWithinOne t y) first test)

module _ (edges : List Seg) (cone : Cone) (limit : ℕ) where
  same_depth : (p : GridPoint) (y z : ℕ) → IsGreatestDepth edges cone limit p y → IsGreatestDepth edges cone limit p z → y ≡ z
  same_depth p y z one other =
      let up : y ≤ z = other.greatest y one.fits in
      let down : z ≤ y = one.greatest z other.fits in
      omega arith

  same_deepest : (one other : GridNode) → one.at ≡ other.at → IsDeepest edges cone limit one → IsDeepest edges cone limit other → one.depth ≡ other.depth
  same_deepest one other at first second =
      same_depth other.at one.depth other.depth (subst (λ p. IsGreatestDepth edges cone limit p one.depth) at first) second

  -- two nodes have one node halfway
  pub same_halfway : (p q one other : GridNode) → IsHalfway edges cone limit p q one → IsHalfway edges cone limit p q other → one ≡ other
  same_halfway p q one other first second =
      let at : one.at ≡ other.at =
      ap₂ (λ x y. record { x = x; y = y }) (same_half _ _ _ _ first.across second.across) (same_half _ _ _ _ first.up second.up)
      in
      ap₂ (λ p z. record { at = p; depth = z }) at (same_deepest one other at first.depth second.depth)

  pub shallow_halfway : (p q mid : GridNode) → IsHalfway edges cone limit p q mid → mid.depth ≡ 0 → HasNoMidway edges cone limit p q
  shallow_halfway p q mid halfway shallow = inr (λ other is. ap (λ n. n.depth) (same_halfway p q other mid is halfway) ∙ shallow)

  pub whole_or_midway : (p q mid : GridNode) → HasNoMidway edges cone limit p q → IsMidway edges cone limit p q mid → ⊥
  whole_or_midway p q mid (inl near) midway = midway.apart near
  whole_or_midway p q mid (inr shallow) midway = midway.deep (shallow mid midway.halfway)
