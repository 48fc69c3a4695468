-- The invariant and the measure of the loop of `join`.
use Rattle.std.proofs.Common.{length}
use Rattle.loop_join.specs.Walks.{AreLoops}
use Rattle.loop_join.proofs.joining.join.Given as goal

abbrev pub invariant-loop-first : goal.invariant-loop-first
invariant-loop-first l = AreLoops l.segs l.drawing l.unused

abbrev pub decreases-loop-first : goal.decreases-loop-first
decreases-loop-first l = length l.unused
