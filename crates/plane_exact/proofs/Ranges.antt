-- Ranges of the differences of coordinates and of their products, and that 64 bits hold them.
use Rattle.std.proofs.Common.{◌≡◌, ℤ, pos, ◌-ℤ◌, ◌≤ℤ◌, ◌<ℤ◌, int_le, true, false, FitsSigned, of_z, w32, w64, arith, refl, ap, ap₂, sym, subst, ◌∙◌}
use borrow.Author.Differences.{true_is_le}
use Rattle.std.proofs.lemmas.Int.{ints}
use Rattle.plane_exact.specs.Plane.{IsCoordinate}
use Rattle.plane_exact.specs.Product.{IsDifference, IsProduct}
use Rattle.plane_exact.proofs.Stored.{narrow, wide, read_is}

narrow_is : (z : ℤ) → IsCoordinate z → narrow z ≡ z
narrow_is z on = read_is w32 z z (omega (arith, ints)) refl

pub wide_is : (z : ℤ) → FitsSigned w64 z → wide z ≡ z
wide_is z fits = read_is w64 z z fits refl

-- a coordinate as the code widens it
pub widened_is : (z : ℤ) → IsCoordinate z → wide (narrow z) ≡ z
widened_is z on = ap wide (narrow_is z on) ∙ wide_is z (omega (arith, ints))

-- the difference b - a of two coordinates as the code takes it
pub record IsTaken (b a z : ℤ) : Type 0 where
  pub fits : FitsSigned w64 z
  pub value : wide z ≡ b -ℤ a
  pub range : IsDifference (wide z)

pub difference_taken : (b a : ℤ) → IsCoordinate b → IsCoordinate a → IsTaken b a (wide (narrow b) -ℤ wide (narrow a))
difference_taken b a on_b on_a =
    subst (IsTaken b a) (sym (ap₂ (λ y z. y -ℤ z) (widened_is b on_b) (widened_is a on_a))) plain
  where
    fits : FitsSigned w64 (b -ℤ a)
    fits = omega (arith, ints)

    plain : IsTaken b a (b -ℤ a)
    plain = record { fits = fits; value = wide_is (b -ℤ a) fits; range = subst IsDifference (sym (wide_is (b -ℤ a) fits)) (record { low = omega (arith, ints); high = omega (arith, ints) }) }

-- the code's test that a product is at most 0, passed or failed
pub not_above : (r d : ℤ) → IsProduct r → r ≡ d → int_le (wide r) (pos 0) ≡ true → d ≤ℤ pos 0
not_above r d range e t = let is = wide_is r (omega (arith, ints)) in omega (arith, ints)

pub above : (r d : ℤ) → IsProduct r → r ≡ d → int_le (wide r) (pos 0) ≡ false → pos 0 <ℤ d
above r d range e t = let is = wide_is r (omega (arith, ints)) in omega (arith, ints)

-- that it passes
pub at_most : (r d : ℤ) → IsProduct r → r ≡ d → d ≤ℤ pos 0 → int_le (wide r) (pos 0) ≡ true
at_most r d range e h = let is = wide_is r (omega (arith, ints)) in sym (true_is_le (wide r) (pos 0) (omega (arith, ints)))

-- the code's test that a product is 0, which reads its bits
pub read_zero : (r d : ℤ) → IsProduct r → r ≡ d → of_z w64 r ≡ 0 → d ≡ pos 0
read_zero r d range e t = omega (arith, ints)

pub zero_read : (r d : ℤ) → IsProduct r → r ≡ d → d ≡ pos 0 → of_z w64 r ≡ 0
zero_read r d range e z = omega (arith, ints)
