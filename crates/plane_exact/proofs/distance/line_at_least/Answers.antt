-- Answers the goals of `line_at_least`.
use Rattle.std.proofs.Common.{lit<, ap₂, ◌*◌, ◌*ℤ◌, ◌∙◌, pos}
use Rattle.integer_algebra.proofs.Order.{product_up_to}
use Rattle.plane_exact.proofs.Wide.{held, widened_product, product_bounds, square_bounds, product_fits, tested}
use Rattle.plane_exact.proofs.distance.line_at_least.Goals as goal

pub times-requires : goal.times-requires
times-requires c =
    product_fits 4294705156000000 8589672450 _ _ _ _
    (held _ _ (record { sfits = c.squared.type_inv }) c.squared.ensures)
    (widened_product _ _ c.dot.ensures.range c.dot.ensures.value)
    (square_bounds c.args.num 65534000 c.requires.num)
    (product_bounds _ _ c.dot.ensures.range c.dot.ensures.value)
    (lit< tt)

pub times-requires-3 : goal.times-requires-3
times-requires-3 c =
    let height = widened_product _ _ c.cross-height.ensures.range c.cross-height.ensures.value in
    let bounds = product_bounds _ _ c.cross-height.ensures.range c.cross-height.ensures.value in
    product_fits (8589672450 * 8589672450) 4000000 _ _ _ _
    (held _ _ (record { sfits = c.times-2.type_inv }) (c.times-2.ensures ∙ ap₂ (λ u v. u *ℤ v) height height))
    (held _ _ (record { sfits = c.squared-2.type_inv }) c.squared-2.ensures)
    (product_up_to (pos 8589672450) (pos 8589672450) _ _ bounds bounds)
    (square_bounds c.args.den 2000 c.requires.den)
    (lit< tt)

pub returns : goal.returns
returns c =
    let height = widened_product _ _ c.cross-height.ensures.range c.cross-height.ensures.value in
    let long = widened_product _ _ c.dot.ensures.range c.dot.ensures.value in
    let least = held _ _ (record { sfits = c.squared.type_inv }) c.squared.ensures in
    let over = held _ _ (record { sfits = c.squared-2.type_inv }) c.squared-2.ensures in
    let square = held _ _ (record { sfits = c.times-2.type_inv }) (c.times-2.ensures ∙ ap₂ (λ u v. u *ℤ v) height height) in
    tested _ _ _ _
    (held _ _ (record { sfits = c.times.type_inv }) (c.times.ensures ∙ ap₂ (λ u v. u *ℤ v) least long))
    (held _ _ (record { sfits = c.times-3.type_inv }) (c.times-3.ensures ∙ ap₂ (λ u v. u *ℤ v) square over))
