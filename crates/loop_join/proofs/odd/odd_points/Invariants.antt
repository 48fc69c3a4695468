-- The invariant of the loop of `odd_points`.
use Rattle.std.proofs.Common.{◌≡◌, take}
use Rattle.plane_exact.specs.Plane.{GridPoint}
use Rattle.loop_join.specs.Ends.{is_odd}
use Rattle.loop_join.specs.Places.{has_place}
use Rattle.loop_join.proofs.odd.odd_points.Given as goal

abbrev pub invariant-loop-seg : goal.invariant-loop-seg
invariant-loop-seg l = (p : GridPoint) → has_place l.odd p ≡ is_odd (take l.seg-index l.segs) p
