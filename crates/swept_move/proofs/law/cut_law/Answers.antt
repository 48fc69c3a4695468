-- Answers the goals of `cut_law`.
use Rattle.swept_move.proofs.Moves.{cuts_or_passes}
use Rattle.swept_move.proofs.law.cut_law.Goals as goal

pub returns : goal.returns
returns c = cuts_or_passes
