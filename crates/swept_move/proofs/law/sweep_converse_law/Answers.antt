-- Answers the goals of `sweep_converse_law`.
use Rattle.swept_move.proofs.Touching.{touches_or_passes}
use Rattle.swept_move.proofs.law.sweep_converse_law.Goals as goal

pub returns : goal.returns
returns c = touches_or_passes
