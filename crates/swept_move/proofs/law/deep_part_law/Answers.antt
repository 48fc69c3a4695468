-- Answers the goals of `deep_part_law`.
use Rattle.swept_move.proofs.Motions.{part_is_deep}
use Rattle.swept_move.proofs.law.deep_part_law.Goals as goal

pub returns : goal.returns
returns c = part_is_deep
