-- Answers the goals of `swept_law`.
use Rattle.swept_move.proofs.Moves.{removes_none}
use Rattle.swept_move.proofs.law.swept_law.Goals as goal

pub returns : goal.returns
returns c = removes_none
