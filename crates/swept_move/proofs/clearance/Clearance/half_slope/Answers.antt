-- Answers the goals of `Clearance::half_slope`.
use mir.Syntax.{w128}
use Rattle.std.proofs.Common.{lit<}
use Rattle.swept_move.proofs.Clearances.{half_slope_is, slope_is}
use Rattle.swept_move.proofs.Widths.{fits, read}
use Rattle.swept_move.proofs.clearance.Clearance.half_slope.Goals as goal

pub overflow_add-result : goal.overflow_add-result
overflow_add-result c = fits w128 (half_slope_is c.args.self c.requires.k c.requires.over c.product.ensures c.product-2.ensures) (lit< tt)

pub returns : goal.returns
returns c =
    let q = c.args.self in
    slope_is q.a q.half q.c c.args.k c.args.over _ (read w128 (half_slope_is q c.requires.k c.requires.over c.product.ensures c.product-2.ensures) (lit< tt)).value
