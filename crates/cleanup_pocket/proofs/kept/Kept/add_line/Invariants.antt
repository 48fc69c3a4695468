-- What the loop of `add_line` keeps.
use Rattle.plane_exact.specs.Plane.{IsCoordinate}
use Rattle.cleanup_pocket.proofs.Lines.{AreRunsKept}
use Rattle.cleanup_pocket.proofs.Places.{places_between}
use Rattle.cleanup_pocket.proofs.kept.Kept.add_line.Given as goal

abbrev pub invariant-loop-run : goal.invariant-loop-run
invariant-loop-run g l = record {
  on : IsCoordinate l.from;
  kept : AreRunsKept (g.F.Floor.is_good l.floor) (g.F.Floor.is_way l.floor) (g.F.Floor.depth_of l.floor) l.line.axis l.line.at l.line.low l.from l.initial.self.chains.items l.initial.self.has_more l.self.chains.items l.self.has_more;
}

abbrev pub decreases-loop-run : goal.decreases-loop-run
decreases-loop-run g l = places_between l.from l.line.high
