-- What the loop of `mark_counted` keeps.
use Rattle.std.proofs.Common.{take}
use Rattle.evenodd_region.specs.Meetings.{AreMarked}
use Rattle.evenodd_region.proofs.marks.mark_counted.Given as goal

abbrev pub invariant-loop-e : goal.invariant-loop-e
invariant-loop-e l = AreMarked l.row (take l.e-index l.edges) l.bits
