-- The invariant and the measure of the loop of `segments`.
use Rattle.std.proofs.Common.{◌≡◌, ◌∷◌, ◌++◌, length, option_map}
use Rattle.arc_flatten.specs.Segments.{grid_points, segments_along, segments_of}
use Rattle.arc_flatten.proofs.points.segments.Given as goal

abbrev pub invariant-loop-next : goal.invariant-loop-next
invariant-loop-next l = option_map (λ others. l.segs.items ++ segments_along (l.before ∷ others)) (grid_points l.rest) ≡ segments_of l.fn.points

abbrev pub decreases-loop-next : goal.decreases-loop-next
decreases-loop-next l = length l.rest
