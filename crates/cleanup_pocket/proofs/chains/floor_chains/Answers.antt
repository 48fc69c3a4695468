-- Answers the goals of `floor_chains`.
use Rattle.std.proofs.Common.{subst}
use Rattle.evenodd_region.specs.Bounds.{IsBoxOf, points_of}
use Rattle.cleanup_pocket.proofs.Floored.{all_floored, too_many_floored}
use Rattle.cleanup_pocket.proofs.chains.floor_chains.Goals as goal

pub returns-then-kept-clause-value : goal.returns-then-kept-clause-value
returns-then-kept-clause-value g c =
    let floor = c.args.floor.now in
    let kept = c.add_way.new.self in
    too_many_floored (g.F.Floor.is_good floor) (g.F.Floor.is_way floor) (g.F.Floor.depth_of floor) (g.F.Floor.loops_of floor) c.args.over c.args.way c.in-Some.bounds.low c.in-Some.bounds.high
    (subst (λ loops. IsBoxOf (points_of loops) c.in-Some.bounds.low c.in-Some.bounds.high) c.scene.ensures c.in-Some.ensures) (g.met.F.Floor.deep floor) c.new-2.result.items kept.chains.items kept.has_more c.new-2.ensures.items c.in_ok-add_way.ensures c.if-kept.true

pub returns-clause-value : goal.returns-clause-value
returns-clause-value g c =
    let floor = c.args.floor.now in
    let kept = c.add_way.new.self in
    all_floored (g.F.Floor.is_good floor) (g.F.Floor.is_way floor) (g.F.Floor.depth_of floor) (g.F.Floor.loops_of floor) c.args.over c.args.way c.in-Some.bounds.low c.in-Some.bounds.high
    (subst (λ loops. IsBoxOf (points_of loops) c.in-Some.bounds.low c.in-Some.bounds.high) c.scene.ensures c.in-Some.ensures) (g.met.F.Floor.deep floor) c.new-2.result.items kept.chains.items kept.has_more c.new-2.ensures.items c.in_ok-add_way.ensures c.if-kept.false
