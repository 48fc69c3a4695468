-- Answers the goals of `line_of_cxf`.
use Rattle.std.specs.Prelude.{codes, decimal, string_bytes}
use Rattle.std.proofs.Common.{sym, ◌++◌, append_assoc}
use Rattle.engrave_core.specs.Line.{cxf_line}
use Rattle.engrave_core.proofs.Texts.{IfOk-bytes}
use Rattle.engrave_core.proofs.line.line_of_cxf.Goals as goal

pub returns : goal.returns
returns c =
    IfOk-bytes string_bytes c.format.result
    (codes "input cxf line " ++ (decimal c.args.fault.now.line ++ (codes " " ++ (c.words-words.result.now ++ codes "\n"))))
    (cxf_line c.args.fault.now)
    (rw c.words-words.ensures (sym (simp append_assoc)))
    c.format.ensures.ok
