-- Answers the goals of `safe_move_law`.
use Rattle.depth_rule.proofs.Exact.{safe_is_clear}
use Rattle.depth_rule.proofs.law.safe_move_law.Goals as goal

pub returns : goal.returns
returns c = safe_is_clear
