-- Answers the goals of `is_line_off`.
use mir.Syntax.{w64}
use Rattle.std.proofs.Common.{pos, ◌*ℤ◌, ap, ap₂, lit<, lit≤, ◌∙◌}
use Rattle.plane_exact.proofs.Wide.{tested}
use Rattle.swept_move.proofs.Clearances.{product_is}
use Rattle.swept_move.proofs.Products.{read_product}
use Rattle.swept_move.proofs.Widths.{at_most, plain, range, read, wider}
use Rattle.swept_move.proofs.distance.is_line_off.Goals as goal

pub product-requires-clause-b : goal.product-requires-clause-b
product-requires-clause-b c = range (at_most (read w64 (plain c.dot.ensures.range) (lit< tt)) (lit≤ tt))

pub returns : goal.returns
returns c =
    let reach = (read w64 (plain c.requires.reach) (lit< tt)).value in
    let height = c.scaled-height.ensures.value ∙ ap (λ z. z *ℤ pos c.args.sd) (read_product c.cross.ensures.range ∙ c.cross.ensures.value) in
    tested _ _ _ _
    (product_is c.squared_reach.ensures.range (wider c.dot.ensures.range (lit≤ tt)) c.product.ensures ∙ ap₂ (λ x y. x *ℤ y) (c.squared_reach.ensures.value ∙ ap₂ (λ x y. x *ℤ y) reach reach) c.dot.ensures.value)
    (product_is c.scaled-height.ensures.range c.scaled-height.ensures.range c.product-2.ensures ∙ ap₂ (λ x y. x *ℤ y) height height)
