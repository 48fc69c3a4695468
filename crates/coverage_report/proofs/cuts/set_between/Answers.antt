-- Answers the goals of `set_between`.
use Rattle.std.proofs.Common.{◌+◌, ◌*◌, arith}
use Rattle.coverage_report.proofs.CutBits.{below_shifted, filled_next}
use Rattle.coverage_report.proofs.cuts.set_between.Goals as goal

pub loop-word-preserved : goal.loop-word-preserved
loop-word-preserved c =
    let s = c.args.start in
    let w = c.loop-word.word in
    filled_next c.args.words.now c.loop-word.words (s + w) _ _ (64 * s + c.args.from) (64 * s + c.args.end) (s + (w + 1)) (omega arith) (omega arith)
    (below_shifted s c.args.end w _ c.ones_below.ensures) (below_shifted s c.args.from w _ c.ones_below-in-loop-word.ensures) (omega arith) c.loop-word.invariant
