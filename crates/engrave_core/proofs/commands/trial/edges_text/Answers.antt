-- Answers the goals of `edges_text`.
use Rattle.std.specs.Prelude.{codes, decimal, string_bytes}
use Rattle.std.proofs.Common.{◌++◌}
use Rattle.engrave_core.proofs.Texts.{IfOk-bytes, paired}
use Rattle.engrave_core.proofs.commands.trial.edges_text.Goals as goal

pub returns : goal.returns
returns c =
    IfOk-bytes string_bytes c.format.result (codes "edges " ++ (decimal c.args.edges ++ (codes " contacts " ++ (decimal c.args.contacts ++ codes "\n"))))
    (codes "edges " ++ decimal c.args.edges ++ codes " contacts " ++ decimal c.args.contacts ++ codes "\n")
    (paired (codes "edges ") (decimal c.args.edges) (codes " contacts ") (decimal c.args.contacts) (codes "\n"))
    c.format.ensures.ok
