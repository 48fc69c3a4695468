-- Answers the goals of `Judged::take_some`.
use Rattle.engrave_model.specs.Drawing.{edges_of}
use Rattle.engrave_core.proofs.JudgedCode.{line_on}
use Rattle.engrave_core.proofs.judged.Judged.take_some.Goals as goal

pub returns-then-len-gt0-clause-judged : goal.returns-then-len-gt0-clause-judged
returns-then-len-gt0-clause-judged c = λ bytes judged.
    let taken = c.take_line-len.ensures in
    line_on (edges_of c.args.scene.now) c.args.bit.now _ _ taken.units bytes _ _ _ taken.after taken.silent judged
