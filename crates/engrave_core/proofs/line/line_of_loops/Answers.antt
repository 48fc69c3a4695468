-- Answers the goals of `line_of_loops`.
use Rattle.std.specs.Prelude.{codes, decimal, string_bytes}
use Rattle.std.proofs.Common.{sym, ◌++◌, append_assoc}
use Rattle.engrave_core.specs.Line.{loops_line}
use Rattle.engrave_core.proofs.Texts.{IfOk-bytes}
use Rattle.engrave_core.proofs.line.line_of_loops.Goals as goal

pub returns : goal.returns
returns c =
    IfOk-bytes string_bytes c.format.result
    (codes "input loops " ++ (decimal c.args.fault.now.at ++ (codes " " ++ (c.words-words.result.now ++ codes "\n"))))
    (loops_line c.args.fault.now)
    (rw c.words-words.ensures (sym (simp append_assoc)))
    c.format.ensures.ok
