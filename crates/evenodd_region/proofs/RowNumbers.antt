-- The row of a rational point by one division of whole numbers.
use mir.Syntax.{w32}
use Rattle.std.proofs.Common.{◌≡◌, ℕ, ◌*◌, ◌/◌, ◌≤◌, ℤ, pos, negsuc, nat_abs, ◌+ℤ◌, ◌-ℤ◌, ◌*ℤ◌, FitsSigned, [], ◌∷◌, arith, refl, ap, sym, subst}
use Rattle.std.proofs.Math.Nat.{div-le_of_le-mul}
use Rattle.std.proofs.lemmas.Int.{ints}
use Rattle.integer_algebra.proofs.Ring.{ring, V, K, ◌⊖◌, ◌⊕◌, ◌⊗◌}
use Rattle.plane_exact.specs.Plane.{RationalPoint}
use Rattle.plane_exact.proofs.Stored.{narrow, wide, read_is}
use Rattle.evenodd_region.specs.Lookup.{IsNearGrid, IsOfRow}
use Rattle.evenodd_region.specs.Ratios.{rational_of}
use Rattle.evenodd_region.specs.declared.ratio.RatioPoint.{RatioPoint}

-- so many rows above the lowest row near the grid, and the point belongs to the last of them
pub record AreWhole (w : RationalPoint) (rows : ℕ) : Type 0 where
  pub few : rows ≤ 81919
  pub row : IsOfRow (pos rows -ℤ pos 40960) w

-- z is the way up from that row, times the denominator, which is o too
whole : (w : RationalPoint) (z o : ℤ) → IsNearGrid w.y w.over → z ≡ w.y +ℤ pos 40960 *ℤ w.over → o ≡ w.over → AreWhole w (nat_abs z / nat_abs o)
whole w (pos a) (pos n) near is over =
    let some = w.positive in
    let low = near.low in
    let high = near.high in
    let q = a / n in
    let split = ring (w.over ∷ pos q ∷ []) (V 0 ⊗ (V 1 ⊖ K (pos 40960))) (V 0 ⊗ V 1 ⊖ K (pos 40960) ⊗ V 0) tt in
    let next = ring (w.over ∷ pos q ∷ []) (V 0 ⊗ ((V 1 ⊖ K (pos 40960)) ⊕ K (pos 1))) (V 0 ⊗ V 1 ⊖ K (pos 40959) ⊗ V 0) tt in
    let product : w.over *ℤ pos q ≡ pos (n * q) = ap (λ z. z *ℤ pos q) (sym over) in
    record {
      few = div-le_of_le-mul n (omega (arith, ints));
      row = record { low = omega (arith, ints); high = omega (arith, ints) };
    }
whole w (negsuc a) o near is over = let some = w.positive in let low = near.low in absurd (omega (arith, ints))
whole w (pos a) (negsuc n) near is over = let some = w.positive in absurd (omega (arith, ints))

-- the same as the code computes it
pub whole_read : (p : RatioPoint) → AreWhole (rational_of p) (nat_abs (wide (wide p.y +ℤ wide (pos 40960 *ℤ wide p.over))) / nat_abs (wide p.over))
whole_read p =
    let some = p.range.positive in
    let small = p.range.small in
    let low = p.range.up.low in
    let high = p.range.up.high in
    let above = wide (wide p.y +ℤ wide (pos 40960 *ℤ wide p.over)) in
    whole (rational_of p) above (wide p.over) p.range.up (omega (arith, ints)) (omega (arith, ints))

pub row_read : (r : ℤ) (w : RationalPoint) → FitsSigned w32 r → IsOfRow r w → IsOfRow (narrow r) w
row_read r w fits of = subst (λ z. IsOfRow z w) (sym (read_is w32 r r fits refl)) of
