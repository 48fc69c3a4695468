-- Answers the goals of `sweep_law`.
use Rattle.swept_move.proofs.Sweeps.{touches_none}
use Rattle.swept_move.proofs.law.sweep_law.Goals as goal

pub returns : goal.returns
returns c = touches_none
