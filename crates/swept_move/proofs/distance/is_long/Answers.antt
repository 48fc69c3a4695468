-- Answers the goals of `is_long`.
use Rattle.std.proofs.Common.{◌*ℤ◌, ap₂, lit≤, ◌∙◌}
use Rattle.plane_exact.proofs.Wide.{tested}
use Rattle.swept_move.proofs.Clearances.{product_is}
use Rattle.swept_move.proofs.Widths.{wider}
use Rattle.swept_move.proofs.distance.is_long.Goals as goal

pub returns : goal.returns
returns c =
    let reach = wider c.requires.reach (lit≤ tt) in
    tested _ _ _ _ (product_is reach reach c.product.ensures)
    (product_is (wider c.dot.ensures.range (lit≤ tt)) c.squared.ensures.range c.product-2.ensures ∙ ap₂ (λ x y. x *ℤ y) c.dot.ensures.value c.squared.ensures.value)
