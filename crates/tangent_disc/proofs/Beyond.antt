-- An edge whose box misses a box about a disc has no point in the disc; and the floors that such a box is drawn about.
use Rattle.std.proofs.Common.{◌≡◌, ℕ, false, ℤ, pos, negsuc, ◌+ℤ◌, ◌-ℤ◌, ◌*ℤ◌, ◌≤ℤ◌, [], ◌∷◌, arith}
use Rattle.std.proofs.lemmas.Int.{ints}
use Rattle.integer_algebra.specs.Ranges.{IsWithin}
use Rattle.integer_algebra.proofs.Ring.{ring, V, K, ◌⊗◌}
use Rattle.integer_algebra.proofs.Order.{cancel_le, cancel_lt, square_nonneg, times_le}
use Rattle.plane_exact.specs.Distance.{square}
use Rattle.plane_exact.specs.Plane.{RationalPoint}
use Rattle.plane_exact.specs.declared.point.Seg.{Seg}
use Rattle.lane_kernels.specs.Boxes.{is_met}
use Rattle.lane_kernels.specs.declared.boxes.Rect.{Rect}
use Rattle.evenodd_region.specs.Lookup.{IsNearGrid}
use Rattle.segment_grid.specs.Near.{box_of}
use Rattle.depth_rule.proofs.Aside.{missed_is_far}
use Rattle.tangent_disc.specs.OpenDisc.{IsOff}
use Rattle.integer_algebra.specs.Floors.{IsFloor}

pub missed : (v : RationalPoint) (reach : ℤ) (radius : ℕ) → reach ≤ℤ square (pos radius *ℤ v.over) → (e : Seg) (column row : ℤ) → IsFloor v.x v.over column
    → IsFloor v.y v.over row → (q : Rect) → q.x0 ≡ column -ℤ pos radius → q.x1 ≡ column +ℤ pos radius → q.y0 ≡ row -ℤ pos radius
    → q.y1 ≡ row +ℤ pos radius → is_met q (box_of e) ≡ false → IsOff v reach e
unfolding IsOff
missed v reach radius wide e column row floor_x floor_y q x0 x1 y0 y1 misses w on =
    let far = missed_is_far v column row floor_x.low floor_x.high floor_y.low floor_y.high radius q (x0, y0, x1, y1) e misses w on in
    let within = times_le (square w.over) reach (square (pos radius *ℤ v.over)) (square_nonneg w.over) wide in
    let left = ring (reach ∷ w.over ∷ []) (V 0 ⊗ (V 1 ⊗ V 1)) ((V 1 ⊗ V 1) ⊗ V 0) tt in
    let right = ring ((pos radius *ℤ v.over) ∷ w.over ∷ []) ((V 0 ⊗ V 0) ⊗ (V 1 ⊗ V 1)) ((V 1 ⊗ V 1) ⊗ (V 0 ⊗ V 0)) tt in
    omega (arith, ints)

-- the floor of a coordinate near the grid
pub floor_within : (z over whole : ℤ) → pos 1 ≤ℤ over → IsNearGrid z over → IsFloor z over whole → IsWithin (negsuc 40959) (pos 40959) whole
floor_within z over whole some near floor =
    let near_low = near.low in
    let near_high = near.high in
    let low = floor.low in
    let high = floor.high in
    let left = ring (over ∷ []) (K (negsuc 40959) ⊗ V 0) (V 0 ⊗ K (negsuc 40959)) tt in
    let right = ring (over ∷ []) (K (pos 40959) ⊗ V 0) (V 0 ⊗ K (pos 40959)) tt in
    let p = cancel_lt over (negsuc 40959) (whole +ℤ pos 1) (omega (arith, ints)) (omega (arith, ints)) in
    let q = cancel_le over whole (pos 40959) (omega (arith, ints)) (omega (arith, ints)) in
    record { low = omega (arith, ints); high = q }
