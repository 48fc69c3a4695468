-- The invariants of the loop of `stepped`.
use Rattle.std.proofs.Common.{◌≡◌, ◌+◌, ◌*◌, ◌/◌, map}
use Rattle.std.specs.List.{range_with_len}
use Rattle.arc_flatten.specs.Arcs.{circle_point_of}
use Rattle.arc_flatten.proofs.circle.stepped.Given as goal

abbrev pub invariant-loop-i : goal.invariant-loop-i
invariant-loop-i l = l.points.items ≡ map (λ i. circle_point_of l.c l.fn.r (l.from + i * l.span / l.pieces)) (range_with_len 0 l.i)
