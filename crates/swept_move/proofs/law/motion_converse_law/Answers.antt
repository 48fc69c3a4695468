-- Answers the goals of `motion_converse_law`.
use Rattle.swept_move.proofs.Motions.{touches_or_keeps_off}
use Rattle.swept_move.proofs.law.motion_converse_law.Goals as goal

pub returns : goal.returns
returns c = touches_or_keeps_off
