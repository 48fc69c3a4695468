-- Answers the goals of `is_flat_along`.
use Rattle.arc_flatten.proofs.Bounded.{flat_fits, flat_is, limit_fits}
use Rattle.arc_flatten.proofs.halving.is_flat_along.Goals as goal

pub times-requires : goal.times-requires
times-requires c = flat_fits c.args.b c.args.way.0 c.args.way.1 _ c.requires.bulge c.requires.across c.requires.up c.unsigned_abs.ensures.value

pub returns : goal.returns
returns c = flat_is c.args.b c.args.way.0 c.args.way.1 _ c.requires.bulge c.requires.across c.requires.up c.unsigned_abs.ensures.value _ c.times.ensures

pub overflow_add-result : goal.overflow_add-result
overflow_add-result c = limit_fits c.args.b c.args.way.0 c.args.way.1 _ c.requires.bulge c.requires.across c.requires.up c.unsigned_abs.ensures.value
