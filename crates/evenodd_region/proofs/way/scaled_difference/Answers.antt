-- Answers the goals of `scaled_difference`.
use Rattle.evenodd_region.proofs.Reach.{scaled_stored, way_stored}
use Rattle.evenodd_region.proofs.way.scaled_difference.Goals as goal

pub overflow_mul-result : goal.overflow_mul-result
overflow_mul-result g c = (scaled_stored _ c.args.z c.args.over c.args.from c.requires.positive c.requires.small c.requires.near c.requires.on c.requires.most).fits

pub overflow_sub-result : goal.overflow_sub-result
overflow_sub-result g c = (way_stored _ c.args.z c.args.over c.args.from c.requires.positive c.requires.small c.requires.near c.requires.on c.requires.most).fits

pub returns-clause-value : goal.returns-clause-value
returns-clause-value g c = (way_stored _ c.args.z c.args.over c.args.from c.requires.positive c.requires.small c.requires.near c.requires.on c.requires.most).value

pub returns-clause-range : goal.returns-clause-range
returns-clause-range g c = (way_stored _ c.args.z c.args.over c.args.from c.requires.positive c.requires.small c.requires.near c.requires.on c.requires.most).range
