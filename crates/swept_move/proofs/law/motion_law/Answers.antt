-- Answers the goals of `motion_law`.
use Rattle.swept_move.proofs.Motions.{spares_edge}
use Rattle.swept_move.proofs.law.motion_law.Goals as goal

pub returns : goal.returns
returns c = spares_edge
