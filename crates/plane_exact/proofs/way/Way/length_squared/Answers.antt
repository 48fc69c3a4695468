-- Answers the goals of `Way::length_squared`.
use Rattle.plane_exact.proofs.Ways.{dot_is, length_within, times_is}
use Rattle.plane_exact.proofs.way.Way.length_squared.Goals as goal

pub overflow_mul-result : goal.overflow_mul-result
overflow_mul-result g c = times_is _ _ c.requires c.args.self c.args.self _ _ c.args.self.across c.args.self.across

pub overflow_mul-result-2 : goal.overflow_mul-result-2
overflow_mul-result-2 g c = times_is _ _ c.requires c.args.self c.args.self _ _ c.args.self.up c.args.self.up

pub overflow_add-result : goal.overflow_add-result
overflow_add-result g c = (dot_is _ _ c.requires c.args.self c.args.self).fits

pub returns-clause-value : goal.returns-clause-value
returns-clause-value g c = (dot_is _ _ c.requires c.args.self c.args.self).value

pub returns-clause-range : goal.returns-clause-range
returns-clause-range g c =
    let length = dot_is _ _ c.requires c.args.self c.args.self in
    length_within _ c.args.self.x c.args.self.y _ length.value length.range
