-- Answers the goals of `reach_law`.
use Rattle.swept_move.proofs.Moves.{reach_passes}
use Rattle.swept_move.proofs.law.reach_law.Goals as goal

pub returns : goal.returns
returns c = reach_passes
