-- Answers the goals of `scaled`.
use mir.Syntax.{w64}
use Rattle.std.proofs.Common.{lit<}
use Rattle.swept_move.proofs.Products.{scaled_is}
use Rattle.swept_move.proofs.Widths.{fits, range, read}
use Rattle.swept_move.proofs.coefficients.scaled.Goals as goal

pub overflow_mul-result-2 : goal.overflow_mul-result-2
overflow_mul-result-2 c = fits w64 (scaled_is c.args.number c.args.product c.requires.number c.requires.product) (lit< tt)

pub returns-clause-value : goal.returns-clause-value
returns-clause-value c = (read w64 (scaled_is c.args.number c.args.product c.requires.number c.requires.product) (lit< tt)).value

pub returns-clause-range : goal.returns-clause-range
returns-clause-range c = range (read w64 (scaled_is c.args.number c.args.product c.requires.number c.requires.product) (lit< tt))
