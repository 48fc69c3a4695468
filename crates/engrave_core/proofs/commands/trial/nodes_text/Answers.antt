-- Answers the goals of `nodes_text`.
use Rattle.std.specs.Prelude.{codes, decimal, string_bytes}
use Rattle.std.proofs.Common.{◌++◌}
use Rattle.engrave_core.proofs.Texts.{IfOk-bytes, paired}
use Rattle.engrave_core.proofs.commands.trial.nodes_text.Goals as goal

pub returns : goal.returns
returns c =
    IfOk-bytes string_bytes c.format.result (codes "nodes " ++ (decimal c.args.nodes ++ (codes " chains " ++ (decimal c.args.chains ++ codes "\n"))))
    (codes "nodes " ++ decimal c.args.nodes ++ codes " chains " ++ decimal c.args.chains ++ codes "\n")
    (paired (codes "nodes ") (decimal c.args.nodes) (codes " chains ") (decimal c.args.chains) (codes "\n"))
    c.format.ensures.ok
