-- The square of the gap between a number and a range.
use Rattle.std.proofs.Common.{◌≡◌, ℤ, pos, ◌+ℤ◌, ◌-ℤ◌, ◌*ℤ◌, ◌≤ℤ◌, ◌⊎◌, inl, inr, [], ◌∷◌, FitsSigned, w32, w64, arith, refl, ap, ap₂, sym, subst, ◌∙◌}
use Rattle.std.proofs.lemmas.Int.{ints, clamps}
use Rattle.std.specs.Int.{int_max}
use Rattle.integer_algebra.specs.Ranges.{IsWithin}
use Rattle.integer_algebra.proofs.Order.{product_up_to, square_le, square_nonneg}
use Rattle.integer_algebra.proofs.Ring.{ring, V, ◌⊖◌, ◌⊗◌}
use Rattle.plane_exact.specs.Plane.{IsCoordinate}
use Rattle.plane_exact.proofs.Ranges.{wide_is}
use Rattle.plane_exact.proofs.Stored.{narrow, read_is, wide}

-- z is the square of a gap, and 64 bits hold it
pub record IsTakenSquare (gap z : ℤ) : Type 0 where
  pub fits : FitsSigned w64 z
  pub range : IsWithin (pos 0) (pos 4294836225) (wide z)
  pub value : wide z ≡ gap *ℤ gap

pub square_taken : (gap : ℤ) → IsWithin (pos 0) (pos 65535) gap → IsTakenSquare gap (wide gap *ℤ wide gap)
square_taken gap range =
    let is : wide gap ≡ gap = wide_is gap (omega (arith, ints)) in
    subst (IsTakenSquare gap) (sym (ap₂ ◌*ℤ◌ is is)) plain
  where
    plain : IsTakenSquare gap (gap *ℤ gap)
    plain =
        let most = product_up_to (pos 65535) (pos 65535) gap gap (record { low = omega (arith, ints); high = range.high }) (record { low = omega (arith, ints); high = range.high }) in
        let least = square_nonneg gap in
        let fits : FitsSigned w64 (gap *ℤ gap) = omega (arith, ints) in
        let same = wide_is (gap *ℤ gap) fits in
        record { fits = fits; range = record { low = omega (arith, ints); high = omega (arith, ints) }; value = same }

pub square_least : (gap t at : ℤ) → IsWithin (pos 0) (pos 65535) gap → (gap ≤ℤ (t -ℤ at)) ⊎ (gap ≤ℤ (at -ℤ t)) → wide (wide gap *ℤ wide gap) ≤ℤ ((t -ℤ at) *ℤ (t -ℤ at))
square_least gap t at range far =
    let is = (square_taken gap range).value in
    let squared : (gap *ℤ gap) ≤ℤ ((t -ℤ at) *ℤ (t -ℤ at)) =
    elim far [
      | inl above ↦ square_le gap (t -ℤ at) range.low above
      | inr below ↦ subst (λ z. (gap *ℤ gap) ≤ℤ z) (ring (t ∷ at ∷ []) ((V 1 ⊖ V 0) ⊗ (V 1 ⊖ V 0)) ((V 0 ⊖ V 1) ⊗ (V 0 ⊖ V 1)) tt) (square_le gap (at -ℤ t) range.low below)
    ] in
    subst (λ z. z ≤ℤ ((t -ℤ at) *ℤ (t -ℤ at))) (sym is) squared

-- a coordinate as the code stores it
pub stored_is : (z : ℤ) → IsCoordinate z → narrow z ≡ z
stored_is z on = read_is w32 z z (omega (arith, ints)) refl

-- the greater of two coordinates
pub most_high : (a b m : ℤ) → IsCoordinate a → IsCoordinate b → m ≡ int_max (narrow a) (narrow b) → IsCoordinate (narrow m)
most_high a b m on_a on_b is =
    let same = is ∙ ap₂ int_max (stored_is a on_a) (stored_is b on_b) in
    let on : IsCoordinate (int_max a b) = record { low = omega (arith, ints, clamps); high = omega (arith, ints, clamps) } in
    let on_m : IsCoordinate m = subst IsCoordinate (sym same) on in
    subst IsCoordinate (sym (stored_is m on_m)) on_m

-- the sum of two squares as the code takes it
pub sum_least : (m n a b : ℤ) → IsWithin (pos 0) (pos 4294836225) m → IsWithin (pos 0) (pos 4294836225) n → m ≤ℤ a → n ≤ℤ b → wide (wide m +ℤ wide n) ≤ℤ (a +ℤ b)
sum_least m n a b on_m on_n low high =
    let is_m = wide_is m (omega (arith, ints)) in
    let is_n = wide_is n (omega (arith, ints)) in
    let is = wide_is (m +ℤ n) (omega (arith, ints)) in
    subst (λ z. z ≤ℤ (a +ℤ b)) (sym (ap wide (ap₂ ◌+ℤ◌ is_m is_n) ∙ is)) (omega (arith, ints))
