-- Answers the goals of `Way::dot`.
use Rattle.plane_exact.proofs.Ways.{dot_is, times_is}
use Rattle.plane_exact.proofs.way.Way.dot.Goals as goal

pub overflow_mul-result : goal.overflow_mul-result
overflow_mul-result g c = times_is _ _ c.requires c.args.self c.args.other _ _ c.args.self.across c.args.other.across

pub overflow_mul-result-2 : goal.overflow_mul-result-2
overflow_mul-result-2 g c = times_is _ _ c.requires c.args.self c.args.other _ _ c.args.self.up c.args.other.up

pub overflow_add-result : goal.overflow_add-result
overflow_add-result g c = (dot_is _ _ c.requires c.args.self c.args.other).fits

pub returns-clause-value : goal.returns-clause-value
returns-clause-value g c = (dot_is _ _ c.requires c.args.self c.args.other).value

pub returns-clause-range : goal.returns-clause-range
returns-clause-range g c = (dot_is _ _ c.requires c.args.self c.args.other).range
