-- Ranges of the ways to rational points near the grid, and that the code holds them.
use mir.Syntax.{w64, w128}
use Rattle.std.proofs.Common.{◌≡◌, ℕ, ◌<◌, ◌^◌, ℤ, pos, negsuc, ◌-ℤ◌, ◌*ℤ◌, ◌≤ℤ◌, FitsSigned, of_z, arith, refl, ap, ap₂, ◌∙◌}
use Rattle.std.proofs.lemmas.Int.{ints}
use Rattle.integer_algebra.proofs.Order.{times_le}
use Rattle.integer_algebra.specs.Ranges.{IsUpTo}
use Rattle.plane_exact.specs.Plane.{IsCoordinate}
use Rattle.plane_exact.proofs.Stored.{IsStored, IsStoredUpTo, narrow, read_is, stored, stored_up_to, wide}
use Rattle.evenodd_region.specs.Lookup.{IsNearGrid}

-- ---- one coordinate of a way

module _ (most : ℕ) (z over from : ℤ) (positive : pos 1 ≤ℤ over) (small : (pos 73727 *ℤ over) ≤ℤ pos most) (near : IsNearGrid z over) (on : IsCoordinate from) where
  scaled_low : (over *ℤ negsuc 32767) ≤ℤ (over *ℤ from)
  scaled_low = times_le over (negsuc 32767) from (omega (arith, ints)) on.low

  scaled_high : (over *ℤ from) ≤ℤ (over *ℤ pos 32767)
  scaled_high = times_le over from (pos 32767) (omega (arith, ints)) on.high

  way_range : IsUpTo (pos most) (z -ℤ over *ℤ from)
  way_range =
      let z_low = near.low in
      let z_high = near.high in
      let low = scaled_low in
      let high = scaled_high in
      record { low = omega (arith, ints); high = omega (arith, ints) }

  module _ (held : most < 2 ^ 63) where
    pub scaled_stored : IsStored w64 (over *ℤ from) (wide over *ℤ wide (narrow from))
    scaled_stored =
        let low = scaled_low in
        let high = scaled_high in
        stored w64 _ _ (ap₂ (λ x y. x *ℤ y) (read_is w64 over over (omega (arith, ints)) refl) (omega (arith, ints))) (omega (arith, ints))

    pub way_stored : IsStoredUpTo w64 (pos most) (z -ℤ over *ℤ from) (wide z -ℤ wide (wide over *ℤ wide (narrow from)))
    way_stored =
        let z_low = near.low in
        let z_high = near.high in
        stored_up_to w64 most _ _ (ap₂ (λ x y. x -ℤ y) (read_is w64 z z (omega (arith, ints)) refl) scaled_stored.value) way_range held

-- ---- the code's test that a number is 0, which reads its bits

pub read_zero : (r d : ℤ) → FitsSigned w128 r → r ≡ d → of_z w128 r ≡ 0 → d ≡ pos 0
read_zero r d fits is zero = omega (arith, ints)

pub zero_read : (r d : ℤ) → r ≡ d → d ≡ pos 0 → of_z w128 r ≡ 0
zero_read r d is zero = ap (λ z. of_z w128 z) (is ∙ zero) ∙ refl
