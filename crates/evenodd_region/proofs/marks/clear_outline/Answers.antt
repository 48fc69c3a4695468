-- Answers the goals of `clear_outline`.
use Rattle.std.proofs.Common.{arith}
use Rattle.evenodd_region.proofs.Marking.{off_more}
use Rattle.evenodd_region.proofs.marks.clear_outline.Goals as goal

pub loop-e-preserved : goal.loop-e-preserved
loop-e-preserved c =
    off_more c.args.row.now c.args.edges.now c.loop-e.e-index c.e-item.result (omega arith) c.e-item.is c.meeting-meeting.result c.meeting-meeting.ensures
    c.before-in-loop-e.result c.through.result c.before-in-loop-e.ensures.value c.through.ensures.value _ _ _ c.loop-e.invariant c.clear_between.ensures
