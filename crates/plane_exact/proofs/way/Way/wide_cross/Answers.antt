-- Answers the goals of `Way::wide_cross`.
use Rattle.plane_exact.proofs.Ways.{wide_cross_is}
use Rattle.plane_exact.proofs.way.Way.wide_cross.Goals as goal

pub overflow_sub-result : goal.overflow_sub-result
overflow_sub-result g c = (wide_cross_is _ _ c.args.self c.args.other _ _ c.product.ensures c.product-2.ensures).fits

pub returns : goal.returns
returns g c = (wide_cross_is _ _ c.args.self c.args.other _ _ c.product.ensures c.product-2.ensures).value
