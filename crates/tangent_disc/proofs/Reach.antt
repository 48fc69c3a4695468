-- Ranges of the centres of discs, and that 64 bits hold them.
use mir.Val.{hbits}
use Rattle.std.proofs.Common.{◌≡◌, ℕ, ◌*◌, ◌<◌, ◌^◌, lit<, ℤ, pos, negsuc, ◌+ℤ◌, ◌-ℤ◌, ◌*ℤ◌, w64, [], ◌∷◌, arith, ap₂}
use Rattle.std.proofs.lemmas.Int.{ints}
use Rattle.integer_algebra.specs.Ranges.{IsUpTo}
use Rattle.integer_algebra.proofs.Ring.{ring, V, K, ◌⊕◌, ◌⊖◌, ◌⊗◌}
use Rattle.integer_algebra.proofs.Order.{product_up_to, times_le}
use Rattle.plane_exact.specs.Plane.{IsCoordinate}
use Rattle.plane_exact.specs.Product.{IsDifference}
use Rattle.plane_exact.proofs.Stored.{IsStoredUpTo, stored_up_to, wide}
use Rattle.plane_exact.proofs.Ranges.{wide_is}
use Rattle.tangent_disc.specs.Tangent.{IsEdgePoint}
use Rattle.tangent_disc.specs.Ways.{IsAmongGrid}
use Rattle.tangent_disc.specs.declared.edge_point.EdgePoint.{EdgePoint}

-- the product of a and b, which the code has as x and y
pub product_kept : (m n : ℕ) (x y a b : ℤ) → x ≡ a → y ≡ b → IsUpTo (pos m) a → IsUpTo (pos n) b → m * n < 2 ^ hbits w64 → IsStoredUpTo w64 (pos (m * n)) (a *ℤ b) (x *ℤ y)
product_kept m n x y a b e f p q small = stored_up_to w64 (m * n) (a *ℤ b) (x *ℤ y) (ap₂ (λ u v. u *ℤ v) e f) (product_up_to (pos m) (pos n) a b p q) small

-- ---- the start of the centres' way

module _ (p : EdgePoint) (range : IsEdgePoint p) where
  abbrev n : ℤ
  n = p.n

  abbrev k : ℤ
  k = p.k

  module _ (from to : ℤ) (on_from : IsCoordinate from) (on_to : IsCoordinate to) where
    -- a point of the edge is among the grid, as its ends are
    pub placed_among : IsAmongGrid (n *ℤ from +ℤ k *ℤ (to -ℤ from)) n
    placed_among =
        let first = range.along.low in
        let last = range.along.high in
        let split = ring (n ∷ k ∷ from ∷ to ∷ []) (V 0 ⊗ V 2 ⊕ V 1 ⊗ (V 3 ⊖ V 2)) ((V 0 ⊖ V 1) ⊗ V 2 ⊕ V 1 ⊗ V 3) tt in
        let a = times_le (n -ℤ k) (negsuc 32767) from (omega (arith, ints)) on_from.low in
        let b = times_le (n -ℤ k) from (pos 32767) (omega (arith, ints)) on_from.high in
        let c = times_le k (negsuc 32767) to (omega (arith, ints)) on_to.low in
        let d = times_le k to (pos 32767) (omega (arith, ints)) on_to.high in
        record { low = omega (arith, ints); high = omega (arith, ints) }

    pub along_kept : IsStoredUpTo w64 (pos 536862720) (k *ℤ (to -ℤ from)) (wide k *ℤ wide (wide to -ℤ wide from))
    along_kept =
        let first = range.along.low in
        let last = range.along.high in
        let most = range.pieces.high in
        product_kept 8192 65535 _ _ k (to -ℤ from) (wide_is k (omega (arith, ints))) (omega (arith, ints))
        (record { low = omega (arith, ints); high = omega (arith, ints) }) (record { low = omega (arith, ints); high = omega (arith, ints) }) (lit< tt)

    pub placed_kept : IsStoredUpTo w64 (pos 268435456) (n *ℤ from +ℤ k *ℤ (to -ℤ from)) (wide (wide n *ℤ wide from) +ℤ wide (wide k *ℤ wide (wide to -ℤ wide from)))
    placed_kept =
        let some = range.pieces.low in
        let most = range.pieces.high in
        let first = product_kept 8192 32768 (wide n) (wide from) n from (wide_is n (omega (arith, ints))) (wide_is from (omega (arith, ints)))
        (record { low = omega (arith, ints); high = omega (arith, ints) }) (record { low = on_from.low; high = omega (arith, ints) }) (lit< tt) in
        let low = placed_among.low in
        let high = placed_among.high in
        stored_up_to w64 268435456 _ _ (ap₂ (λ x y. x +ℤ y) first.value along_kept.value) (record { low = omega (arith, ints); high = omega (arith, ints) }) (lit< tt)

    pub start_kept : IsStoredUpTo w64 (pos 24878866497536) (p.length *ℤ (n *ℤ from +ℤ k *ℤ (to -ℤ from)))
        (wide p.length *ℤ wide (wide (wide n *ℤ wide from) +ℤ wide (wide k *ℤ wide (wide to -ℤ wide from))))
    start_kept =
        let some = range.long.low in
        let most = range.long.high in
        let low = placed_among.low in
        let high = placed_among.high in
        let n_most = range.pieces.high in
        product_kept 92681 268435456 _ _ p.length _ (wide_is p.length (omega (arith, ints))) placed_kept.value
        (record { low = omega (arith, ints); high = omega (arith, ints) }) (record { low = omega (arith, ints); high = omega (arith, ints) }) (lit< tt)

    -- the start is among the grid, over the denominator
    pub start_among : IsAmongGrid (p.length *ℤ (n *ℤ from +ℤ k *ℤ (to -ℤ from))) (n *ℤ p.length)
    start_among =
        let some = range.long.low in
        let low = times_le p.length _ _ (omega (arith, ints)) placed_among.low in
        let high = times_le p.length _ _ (omega (arith, ints)) placed_among.high in
        let left = ring (n ∷ p.length ∷ []) (V 1 ⊗ (K (negsuc 32767) ⊗ V 0)) (K (negsuc 32767) ⊗ (V 0 ⊗ V 1)) tt in
        let right = ring (n ∷ p.length ∷ []) (V 1 ⊗ (K (pos 32767) ⊗ V 0)) (K (pos 32767) ⊗ (V 0 ⊗ V 1)) tt in
        record { low = omega (arith, ints); high = omega (arith, ints) }

  pub step_kept : (m : ℤ) → IsDifference m → IsStoredUpTo w64 (pos 536862720) (n *ℤ m) (wide n *ℤ wide m)
  step_kept m on =
      let some = range.pieces.low in
      let most = range.pieces.high in
      product_kept 8192 65535 (wide n) (wide m) n m (wide_is n (omega (arith, ints))) (wide_is m (omega (arith, ints)))
      (record { low = omega (arith, ints); high = omega (arith, ints) }) on (lit< tt)
