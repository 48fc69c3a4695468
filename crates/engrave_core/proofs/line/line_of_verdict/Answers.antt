-- Answers the goals of `line_of_verdict`.
use Rattle.std.specs.Prelude.{codes, decimal, string_bytes}
use Rattle.std.proofs.Common.{sym, ◌++◌, append_assoc}
use Rattle.engrave_core.specs.Line.{verdict_line}
use Rattle.engrave_core.proofs.Texts.{IfOk-bytes}
use Rattle.engrave_core.proofs.line.line_of_verdict.Goals as goal

pub returns-in-Gouge : goal.returns-in-Gouge
returns-in-Gouge c =
    IfOk-bytes string_bytes c.format-in-Gouge.result
    (codes "line " ++ (decimal c.in-Gouge.line ++ (codes " gouge edge " ++ (decimal c.in-Gouge.edge ++ codes "\n"))))
    (verdict_line c.args.verdict.now)
    (rw c.in-Gouge.is (sym (simp append_assoc)))
    c.format-in-Gouge.ensures.ok
