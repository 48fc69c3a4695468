-- Answers the goals of `line_of_input`.
use Rattle.std.specs.Prelude.{codes, decimal, string_bytes}
use Rattle.std.proofs.Common.{sym, ◌++◌, append_assoc}
use Rattle.engrave_core.specs.Line.{input_line}
use Rattle.engrave_core.proofs.Texts.{IfOk-bytes}
use Rattle.engrave_core.proofs.line.line_of_input.Goals as goal

pub returns-in-Cross : goal.returns-in-Cross
returns-in-Cross c =
    IfOk-bytes string_bytes c.format.result
    (codes "input cross " ++ (decimal c.in-Cross.i ++ (codes "," ++ (decimal c.in-Cross.j ++ codes "\n"))))
    (input_line c.args.fault.now)
    (rw c.in-Cross.is (sym (simp append_assoc)))
    c.format.ensures.ok
