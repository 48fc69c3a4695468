-- Answers the goals of `reach_at`.
use Rattle.swept_move.proofs.Products.{reach_is}
use Rattle.swept_move.proofs.Widths.{range}
use Rattle.swept_move.proofs.distance.reach_at.Goals as goal

pub returns-clause-value : goal.returns-clause-value
returns-clause-value c = (reach_is c.sn.ensures.range.slope.high c.sn.ensures.value c.depth.ensures.range c.depth.ensures.value).value

pub returns-clause-range : goal.returns-clause-range
returns-clause-range c = range (reach_is c.sn.ensures.range.slope.high c.sn.ensures.value c.depth.ensures.range c.depth.ensures.value)
