-- Answers the goals of `half_bulge`.
use Rattle.arc_flatten.proofs.Bounded.{half_above, half_below}
use Rattle.arc_flatten.proofs.halving.half_bulge.Goals as goal

pub returns-then-b-lt0-clause-value : goal.returns-then-b-lt0-clause-value
returns-then-b-lt0-clause-value c = half_below c.args.b _ _ c.requires c.unsigned_abs.ensures.value c.half_size-size.ensures.value c.half_size-size.ensures.small c.if-b-lt0.true

pub returns-else-b-lt0-clause-value : goal.returns-else-b-lt0-clause-value
returns-else-b-lt0-clause-value c = half_above c.args.b _ _ c.requires c.unsigned_abs.ensures.value c.half_size-size.ensures.value c.half_size-size.ensures.small c.if-b-lt0.false
