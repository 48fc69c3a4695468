-- What the loop of `clear_outline` keeps.
use Rattle.std.proofs.Common.{take}
use Rattle.evenodd_region.specs.Meetings.{AreOffOutline}
use Rattle.evenodd_region.proofs.marks.clear_outline.Given as goal

abbrev pub invariant-loop-e : goal.invariant-loop-e
invariant-loop-e l = AreOffOutline l.row (take l.e-index l.edges) l.initial.bits l.bits
