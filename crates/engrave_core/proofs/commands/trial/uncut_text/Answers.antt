-- Answers the goals of `uncut_text`.
use Rattle.std.specs.Prelude.{codes, decimal, string_bytes}
use Rattle.std.proofs.Common.{◌++◌}
use Rattle.engrave_core.proofs.Texts.{IfOk-bytes, paired}
use Rattle.engrave_core.proofs.commands.trial.uncut_text.Goals as goal

pub returns : goal.returns
returns c =
    IfOk-bytes string_bytes c.format.result (codes "uncut " ++ (decimal c.args.left ++ (codes " of " ++ (decimal c.args.drawn ++ codes "\n"))))
    (codes "uncut " ++ decimal c.args.left ++ codes " of " ++ decimal c.args.drawn ++ codes "\n")
    (paired (codes "uncut ") (decimal c.args.left) (codes " of ") (decimal c.args.drawn) (codes "\n"))
    c.format.ensures.ok
