-- Answers the goals of `scaled`.
use Rattle.arc_flatten.proofs.Bounded.{cast_fits, product_fits_wide, radius_range, read_is_nearest, read_range, scaled_fits}
use Rattle.arc_flatten.proofs.circle.scaled.Goals as goal

pub times-product-requires : goal.times-product-requires
times-product-requires c = product_fits_wide c.args.r c.args.component (radius_range c.args.r c.requires.radius) c.requires.component

pub overflow_add-product : goal.overflow_add-product
overflow_add-product c = scaled_fits c.args.r c.args.component (radius_range c.args.r c.requires.radius) c.requires.component _ c.times-product.ensures

pub overflow_cast-result : goal.overflow_cast-result
overflow_cast-result c = cast_fits c.args.r c.args.component (radius_range c.args.r c.requires.radius) c.requires.component _ c.times-product.ensures _ c.div_euclid.ensures

pub returns-clause-value : goal.returns-clause-value
returns-clause-value c = read_is_nearest c.args.r c.args.component (radius_range c.args.r c.requires.radius) c.requires.component _ c.times-product.ensures _ c.div_euclid.ensures

pub returns-clause-size : goal.returns-clause-size
returns-clause-size c = read_range c.args.r c.args.component (radius_range c.args.r c.requires.radius) c.requires.component _ c.times-product.ensures _ c.div_euclid.ensures
