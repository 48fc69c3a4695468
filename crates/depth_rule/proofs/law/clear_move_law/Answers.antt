-- Answers the goals of `clear_move_law`.
use Rattle.depth_rule.proofs.Safety.{clear_is_safe}
use Rattle.depth_rule.proofs.law.clear_move_law.Goals as goal

pub returns : goal.returns
returns c = clear_is_safe
