-- Places as the code hands them on: a coordinate is read again as it was stored.
use lib.Signed.{le_z}
use mir.Syntax.{w32}
use Rattle.std.proofs.Common.{◌≡◌, ℕ, ◌≤◌, true, false, ◌≤ℤ◌, ℤ, pos, ◌+ℤ◌, ◌<ℤ◌, to_z, arith, ap, ap₂, ◌∙◌}
use Rattle.std.proofs.lemmas.Int.{ints}
use Rattle.plane_exact.specs.Nodes.{GridNode, node_place}
use Rattle.plane_exact.specs.declared.moves.Move.{Move}
use Rattle.depth_rule.specs.Along.{move_between}
use Rattle.plane_exact.specs.Plane.{GridPoint, IsCoordinate}
use Rattle.plane_exact.proofs.Stored.{IsStored, fits_up_to, narrow, stored}
use Rattle.cleanup_pocket.specs.Floors.{node_on, point_on}
use Rattle.cleanup_pocket.specs.declared.axis.Axis.{Axis}

pub place_read : (z : ℤ) → IsCoordinate z → narrow z ≡ z
place_read z on = let low = on.low in let high = on.high in omega (arith, ints)

pub value_read : (z r : ℤ) → IsCoordinate z → r ≡ z → narrow r ≡ z
value_read z r on is = ap narrow is ∙ place_read z on

pub point_read : (axis : Axis) (line z : ℤ) (p : GridPoint) → IsCoordinate z → p ≡ point_on axis line (narrow z) → p ≡ point_on axis line z
point_read axis line z p on is = is ∙ ap (point_on axis line) (place_read z on)

-- a test of a place against the end
pub at_most : (z high : ℤ) → IsCoordinate high → le_z z (narrow high) ≡ true → z ≤ℤ high
at_most z high end test = let low = end.low in let most = end.high in omega (arith, ints)

pub more_than : (z high : ℤ) → IsCoordinate high → le_z z (narrow high) ≡ false → high <ℤ z
more_than z high end test = let low = end.low in let most = end.high in omega (arith, ints)

-- the place so many steps on
pub step_read : (z : ℤ) (n : ℕ) → IsCoordinate z → n ≤ 32767 → IsStored w32 (z +ℤ pos n) (z +ℤ to_z w32 n)
step_read z n on few =
    let low = on.low in
    let high = on.high in
    let plain : to_z w32 n ≡ pos n = omega (arith, ints) in
    stored w32 (z +ℤ pos n) (z +ℤ to_z w32 n) (ap (λ k. z +ℤ k) plain)
    (fits_up_to w32 65535 (z +ℤ pos n) (omega arith) (record { low = omega (arith, ints); high = omega (arith, ints) }))

module _ (z high : ℤ) (on : IsCoordinate z) (end : IsCoordinate high) (before : z <ℤ high) where
  pub next_read : narrow (narrow z +ℤ pos 1) ≡ z +ℤ pos 1
  next_read =
      let low = on.low in
      let most = end.high in
      let plain : narrow (z +ℤ pos 1) ≡ z +ℤ pos 1 = omega (arith, ints) in
      ap (λ z. narrow (z +ℤ pos 1)) (place_read z on) ∙ plain

  pub step_is : (axis : Axis) (line : ℤ) (depth : ℕ) (this next : GridNode) (mv : Move) → this ≡ node_on axis line depth (narrow z)
      → next ≡ node_on axis line depth (narrow (narrow z +ℤ pos 1)) → mv ≡ record { from = node_place this; to = node_place next }
      → mv ≡ move_between (node_on axis line depth z) (node_on axis line depth (z +ℤ pos 1))
  step_is axis line depth this next mv this_is next_is is =
      is ∙ ap₂ move_between (this_is ∙ ap (node_on axis line depth) (place_read z on)) (next_is ∙ ap (node_on axis line depth) next_read)

  pub step_kept : (axis : Axis) (line : ℤ) (depth : ℕ) (mv : Move)
      → mv ≡ move_between (node_on axis line depth (narrow z)) (node_on axis line depth (narrow z +ℤ pos 1))
      → mv ≡ move_between (node_on axis line depth z) (node_on axis line depth (z +ℤ pos 1))
  step_kept axis line depth mv is = is ∙ ap (λ z. move_between (node_on axis line depth z) (node_on axis line depth (z +ℤ pos 1))) (place_read z on)
