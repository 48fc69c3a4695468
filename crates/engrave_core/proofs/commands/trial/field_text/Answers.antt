-- Answers the goals of `field_text`.
use Rattle.std.specs.Prelude.{codes, decimal, string_bytes}
use Rattle.std.proofs.Common.{◌++◌}
use Rattle.engrave_core.proofs.Texts.{IfOk-bytes, paired}
use Rattle.engrave_core.proofs.commands.trial.field_text.Goals as goal

pub returns : goal.returns
returns c =
    IfOk-bytes string_bytes c.format.result (codes "trial " ++ (decimal c.args.count ++ (codes " loops " ++ (decimal c.args.loops ++ codes " "))))
    (codes "trial " ++ decimal c.args.count ++ codes " loops " ++ decimal c.args.loops ++ codes " ")
    (paired (codes "trial ") (decimal c.args.count) (codes " loops ") (decimal c.args.loops) (codes " "))
    c.format.ensures.ok
