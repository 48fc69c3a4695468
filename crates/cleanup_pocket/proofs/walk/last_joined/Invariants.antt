-- The invariants of the loop of `last_joined`.
use Rattle.cleanup_pocket.specs.Floors.{IsJoinedBy}
use Rattle.cleanup_pocket.proofs.Ahead.{AreJoinedSoFar}
use Rattle.cleanup_pocket.proofs.Places.{places_between}
use Rattle.cleanup_pocket.proofs.walk.last_joined.Given as goal

abbrev pub invariant-loop-first : goal.invariant-loop-first
invariant-loop-first g l =
    AreJoinedSoFar (g.F.Floor.is_good l.floor l.line.axis l.line.at)
    (IsJoinedBy (g.F.Floor.is_good l.floor) (g.F.Floor.is_way l.floor) l.line.axis l.line.at) l.first l.place

abbrev pub decreases-loop-first : goal.decreases-loop-first
decreases-loop-first g l = places_between l.place l.line.high
