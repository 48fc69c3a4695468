-- Answers the goals of `side_at`.
use mir.Syntax.{w64}
use Rattle.std.proofs.Common.{lit<}
use Rattle.swept_move.proofs.Products.{side_is}
use Rattle.swept_move.proofs.Widths.{fits, read}
use Rattle.swept_move.proofs.sides.side_at.Goals as goal

pub overflow_add-result : goal.overflow_add-result
overflow_add-result c = fits w64 (side_is c.requires.k c.requires.over c.requires.base c.requires.turn) (lit< tt)

pub returns : goal.returns
returns c = (read w64 (side_is c.requires.k c.requires.over c.requires.base c.requires.turn) (lit< tt)).value
