-- The invariants of the loop of `next_good`.
use Rattle.std.proofs.Common.{pos, ◌+ℤ◌}
use Rattle.cleanup_pocket.proofs.Ahead.{IsNoneSoFar}
use Rattle.cleanup_pocket.proofs.Places.{places_between}
use Rattle.cleanup_pocket.proofs.walk.next_good.Given as goal

abbrev pub invariant-loop-place : goal.invariant-loop-place
invariant-loop-place g l = IsNoneSoFar (g.F.Floor.is_good l.floor l.line.axis l.line.at) l.from l.place

abbrev pub decreases-loop-place : goal.decreases-loop-place
decreases-loop-place g l = places_between l.place (l.line.high +ℤ pos 1)
