-- Quotients that are rounded to the nearest whole number, and their size.
use mir.Syntax.{w64, w128}
use Rattle.std.proofs.Common.{◌≡◌, ℕ, ◌+◌, ◌*◌, ◌≤◌, ℤ, pos, neg_ℤ, ◌+ℤ◌, ◌*ℤ◌, ◌<ℤ◌, FitsSigned, to_z, arith, subst, ap₂, sym, ◌∙◌}
use Rattle.std.proofs.lemmas.Int.{ints}
use Rattle.std.specs.Int.{int_div_euclid}
use Rattle.integer_algebra.specs.Ranges.{IsUpTo}
use Rattle.integer_algebra.proofs.Floors.{floor_of}
use Rattle.integer_algebra.proofs.Order.{cancel_lt, product_up_to, times_neg}
use Rattle.grid_num.specs.Rounding.{nearest}
use Rattle.plane_exact.proofs.Stored.{wide, widest}

-- m times as much, rounded, is at most m
pub nearest_up_to : (z : ℤ) (over m : ℕ) → 1 ≤ over → IsUpTo (pos (m * over)) z → IsUpTo (pos m) (nearest z over)
nearest_up_to z over m some range =
    let low = range.low in
    let high = range.high in
    let floor = floor_of (pos 2 *ℤ z +ℤ pos over) (pos (2 * over)) (omega (arith, ints)) in
    let floor_low = floor.low in
    let floor_high = floor.high in
    let product : m * over + m * over ≡ 2 * over * m = omega arith in
    let next : 2 * over * (m + 1) ≡ 2 * over * m + 2 * over = omega arith in
    let above : (pos (2 * over) *ℤ nearest z over) <ℤ (pos (2 * over) *ℤ pos (m + 1)) = omega (arith, ints) in
    let turned : pos (2 * over) *ℤ neg_ℤ (pos m) ≡ neg_ℤ (pos (2 * over * m)) = times_neg (pos (2 * over)) (pos m) in
    let below : (pos (2 * over) *ℤ neg_ℤ (pos m)) <ℤ (pos (2 * over) *ℤ (nearest z over +ℤ pos 1)) = omega (arith, ints) in
    let most = cancel_lt (pos (2 * over)) (nearest z over) (pos (m + 1)) (omega (arith, ints)) above in
    let least = cancel_lt (pos (2 * over)) (neg_ℤ (pos m)) (nearest z over +ℤ pos 1) (omega (arith, ints)) below in
    record { low = omega (arith, ints); high = omega (arith, ints) }

-- ---- a number times `by / over`, as the code makes it in 128 bits

module _ (z : ℤ) (by over : ℕ) (on : IsUpTo (pos 2000000000000) z) (few : by ≤ 20 * over) (some : 1 ≤ over) (small : over ≤ 900000) where
  range : IsUpTo (pos (40000000000000 * over)) (z *ℤ pos by)
  range =
      let product = product_up_to (pos 2000000000000) (pos by) z (pos by) on (record { low = omega (arith, ints); high = omega (arith, ints) }) in
      let low = product.low in
      let high = product.high in
      record { low = omega (arith, ints); high = omega (arith, ints) }

  module _ (p : ℤ) (is : p ≡ widest (wide z) *ℤ to_z w128 by) where
    product : p ≡ z *ℤ pos by
    product =
        let low = on.low in
        let high = on.high in
        let read_z : widest (wide z) ≡ z = omega (arith, ints) in
        let read_by : to_z w128 by ≡ pos by = omega (arith, ints) in
        is ∙ ap₂ (λ a b. a *ℤ b) read_z read_by

    top : widest (widest (pos 2 *ℤ widest p) +ℤ to_z w128 over) ≡ pos 2 *ℤ (z *ℤ pos by) +ℤ pos over
    top = let low = range.low in let high = range.high in let same = product in omega (arith, ints)

    bottom : widest (pos 2 *ℤ to_z w128 over) ≡ pos (2 * over)
    bottom = omega (arith, ints)

    module _ (q : ℤ) (quotient : q ≡ int_div_euclid (widest (widest (pos 2 *ℤ widest p) +ℤ to_z w128 over)) (widest (pos 2 *ℤ to_z w128 over))) where
      is_nearest : q ≡ nearest (z *ℤ pos by) over
      is_nearest = quotient ∙ ap₂ int_div_euclid top bottom

      q_range : IsUpTo (pos 40000000000000) q
      q_range = subst (IsUpTo (pos 40000000000000)) (sym is_nearest) (nearest_up_to (z *ℤ pos by) over 40000000000000 some range)

      pub scaled_fits : FitsSigned w64 (widest q)
      scaled_fits = let low = q_range.low in let high = q_range.high in omega (arith, ints)

      read_q : wide (widest q) ≡ q
      read_q = let low = q_range.low in let high = q_range.high in omega (arith, ints)

      pub scaled_is : wide (widest q) ≡ nearest (z *ℤ pos by) over
      scaled_is = read_q ∙ is_nearest

      pub scaled_range : IsUpTo (pos 40000000000000) (wide (widest q))
      scaled_range = subst (IsUpTo (pos 40000000000000)) (sym read_q) q_range
