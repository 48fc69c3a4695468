-- Answers the goals of `Way::wide_dot`.
use Rattle.plane_exact.proofs.Ways.{wide_dot_is}
use Rattle.plane_exact.proofs.way.Way.wide_dot.Goals as goal

pub overflow_add-result : goal.overflow_add-result
overflow_add-result g c = (wide_dot_is _ _ c.args.self c.args.other _ _ c.product.ensures c.product-2.ensures).fits

pub returns : goal.returns
returns g c = (wide_dot_is _ _ c.args.self c.args.other _ _ c.product.ensures c.product-2.ensures).value
