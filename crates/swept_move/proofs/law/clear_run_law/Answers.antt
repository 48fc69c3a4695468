-- Answers the goals of `clear_run_law`.
use Rattle.swept_move.proofs.Moves.{run_is_clear}
use Rattle.swept_move.proofs.law.clear_run_law.Goals as goal

pub returns : goal.returns
returns c = run_is_clear
