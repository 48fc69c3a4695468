-- Quotients rounded down, and to the nearest whole number.
use Rattle.std.proofs.Common.{◌≡◌, ◌*◌, ◌/◌, ℤ, pos, negsuc, ◌+ℤ◌, ◌*ℤ◌, ◌≤ℤ◌, ◌<ℤ◌, [], ◌∷◌, arith, ap, subst, sym, neg_ℤ, ◌≤◌, ◌∙◌}
use Rattle.std.proofs.lemmas.Int.{ints}
use Rattle.std.specs.Int.{int_div_euclid}
use Rattle.integer_algebra.proofs.Ring.{ring, V, K, ◌⊕◌, ◌⊗◌}
use Rattle.integer_algebra.proofs.Order.{times_neg}
use Rattle.integer_algebra.specs.Floors.{IsFloor}
use Rattle.tangent_disc.specs.Tangent.{IsRounded}

pub rounded_of : (z over nearest : ℤ) → IsFloor (pos 2 *ℤ z +ℤ over) (pos 2 *ℤ over) nearest → IsRounded z over nearest
rounded_of z over nearest floor =
    let low = floor.low in
    let high = floor.high in
    let left = ring (over ∷ nearest ∷ []) ((K (pos 2) ⊗ V 0) ⊗ V 1) (K (pos 2) ⊗ (V 0 ⊗ V 1)) tt in
    let right = ring (over ∷ nearest ∷ []) ((K (pos 2) ⊗ V 0) ⊗ (V 1 ⊕ K (pos 1))) (K (pos 2) ⊗ (V 0 ⊗ (V 1 ⊕ K (pos 1)))) tt in
    record { low = omega (arith, ints); high = omega (arith, ints) }
