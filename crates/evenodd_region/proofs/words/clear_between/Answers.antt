-- Answers the goals of `clear_between`.
use Rattle.std.proofs.Common.{arith}
use Rattle.evenodd_region.proofs.BitRuns.{cleared_next}
use Rattle.evenodd_region.proofs.words.clear_between.Goals as goal

pub loop-word-preserved : goal.loop-word-preserved
loop-word-preserved c =
    cleared_next c.args.bits.now c.loop-word.bits c.loop-word.word _ _ c.args.from c.args.end (omega arith) c.ones_below.ensures c.ones_below-in-loop-word.ensures
    (omega arith) c.loop-word.invariant
