-- Answers the goals of `clearance`.
use Rattle.std.proofs.Common.{pos}
use Rattle.plane_exact.specs.Distance.{square}
use Rattle.swept_move.proofs.Products.{coefficient_is, with_half_is}
use Rattle.swept_move.proofs.coefficients.clearance.Goals as goal

pub returns : goal.returns
returns c =
    let sd = square (pos c.args.bit.now.sd) in
    let sn = square (pos c.args.bit.now.sn) in
    let z = c.requires.depth in
    let down = c.requires.descent in
    with_half_is
    (coefficient_is sd sn c.excess.ensures.range c.excess.ensures.value c.dot.ensures.range c.dot.ensures.value c.depths.ensures.range c.depths.ensures.value down down)
    (coefficient_is sd sn c.excess-2.ensures.range c.excess-2.ensures.value c.dot-2.ensures.range c.dot-2.ensures.value c.depths-2.ensures.range c.depths-2.ensures.value z down)
    (coefficient_is sd sn c.excess-3.ensures.range c.excess-3.ensures.value c.dot-3.ensures.range c.dot-3.ensures.value c.depths-3.ensures.range c.depths-3.ensures.value z z)
