-- Answers the goals of `own_place_law`.
use Rattle.depth_rule.proofs.Exact.{own_place_removed}
use Rattle.depth_rule.proofs.law.own_place_law.Goals as goal

pub returns : goal.returns
returns c = own_place_removed
