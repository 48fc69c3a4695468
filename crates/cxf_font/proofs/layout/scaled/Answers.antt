-- Answers the goals of `scaled`.
use Rattle.cxf_font.proofs.Rounded.{scaled_fits, scaled_is, scaled_range}
use Rattle.cxf_font.proofs.layout.scaled.Goals as goal

pub overflow_cast-result : goal.overflow_cast-result
overflow_cast-result c = scaled_fits c.args.z c.args.by c.args.over c.requires.number c.requires.by c.requires.over.low c.requires.over.high _ c.times-product.ensures _ c.div_euclid.ensures

pub returns-clause-value : goal.returns-clause-value
returns-clause-value c = scaled_is c.args.z c.args.by c.args.over c.requires.number c.requires.by c.requires.over.low c.requires.over.high _ c.times-product.ensures _ c.div_euclid.ensures

pub returns-clause-range : goal.returns-clause-range
returns-clause-range c = scaled_range c.args.z c.args.by c.args.over c.requires.number c.requires.by c.requires.over.low c.requires.over.high _ c.times-product.ensures _ c.div_euclid.ensures
