-- Answers the goals of `point_at_least`.
use Rattle.std.proofs.Common.{lit<, ap₂, ◌*ℤ◌, ◌∙◌}
use Rattle.plane_exact.proofs.Wide.{held, widened_product, product_bounds, square_bounds, product_fits, tested}
use Rattle.plane_exact.proofs.distance.point_at_least.Goals as goal

pub times-requires : goal.times-requires
times-requires c =
    product_fits 8589672450 4000000 _ _ _ _
    (widened_product _ _ c.dot.ensures.range c.dot.ensures.value)
    (held _ _ (record { sfits = c.squared-2.type_inv }) c.squared-2.ensures)
    (product_bounds _ _ c.dot.ensures.range c.dot.ensures.value)
    (square_bounds c.args.den 2000 c.requires.den)
    (lit< tt)

pub returns : goal.returns
returns c =
    let distance = widened_product _ _ c.dot.ensures.range c.dot.ensures.value in
    let over = held _ _ (record { sfits = c.squared-2.type_inv }) c.squared-2.ensures in
    tested _ _ _ _
    (held _ _ (record { sfits = c.squared.type_inv }) c.squared.ensures)
    (held _ _ (record { sfits = c.times.type_inv }) (c.times.ensures ∙ ap₂ (λ u v. u *ℤ v) distance over))
