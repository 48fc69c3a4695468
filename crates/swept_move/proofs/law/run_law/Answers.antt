-- Answers the goals of `run_law`.
use Rattle.swept_move.proofs.Runs.{run_is_motion}
use Rattle.swept_move.proofs.law.run_law.Goals as goal

pub returns : goal.returns
returns c = run_is_motion
