-- The invariant and the measure of the loop of `walk`.
use Rattle.std.proofs.Common.{length}
use Rattle.loop_join.specs.Walks.{IsLoopFrom}
use Rattle.loop_join.proofs.joining.walk.Given as goal

abbrev pub invariant-loop-first : goal.invariant-loop-first
invariant-loop-first l = IsLoopFrom l.first l.initial.unused l.points.items l.place l.unused

abbrev pub decreases-loop-first : goal.decreases-loop-first
decreases-loop-first l = length l.unused
