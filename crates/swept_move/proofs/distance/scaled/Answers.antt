-- Answers the goals of `scaled`.
use Rattle.std.proofs.Common.{lit≤}
use Rattle.swept_move.proofs.Products.{scaled_product}
use Rattle.swept_move.proofs.Widths.{at_most, range}
use Rattle.swept_move.proofs.distance.scaled.Goals as goal

pub returns-clause-value : goal.returns-clause-value
returns-clause-value c = (scaled_product c.requires.product c.requires.sd).value

pub returns-clause-range : goal.returns-clause-range
returns-clause-range c = range (at_most (scaled_product c.requires.product c.requires.sd) (lit≤ tt))
