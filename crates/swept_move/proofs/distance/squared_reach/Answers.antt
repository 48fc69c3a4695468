-- Answers the goals of `squared_reach`.
use Rattle.std.proofs.Common.{lit≤}
use Rattle.swept_move.proofs.Products.{square_of_reach}
use Rattle.swept_move.proofs.Widths.{at_most, range}
use Rattle.swept_move.proofs.distance.squared_reach.Goals as goal

pub returns-clause-value : goal.returns-clause-value
returns-clause-value c = (square_of_reach c.requires).value

pub returns-clause-range : goal.returns-clause-range
returns-clause-range c = range (at_most (square_of_reach c.requires) (lit≤ tt))
