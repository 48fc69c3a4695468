-- Answers the goals of `wide_ahead`.
use Rattle.std.proofs.Common.{◌≤◌, ◌*◌, arith, subst, sym}
use Rattle.plane_exact.specs.declared.moves.TheConstants.{MOST_DEPTH}
use Rattle.depth_rule.specs.Deepest.{deepest_of}
use Rattle.engrave_model.specs.Drawing.{edges_of}
use Rattle.depth_rule.specs.Clearance.{IsClearance}
use Rattle.cleanup_pocket.proofs.Ahead.{wide_ahead, wide_few, wide_read}
use Rattle.cleanup_pocket.proofs.StoredPlaces.{point_read}
use Rattle.cleanup_pocket.proofs.deep.PocketFloor.wide_ahead.Goals as goal

pub returns-clause-joined : goal.returns-clause-joined
returns-clause-joined c =
    let floor = c.args.self.now in
    let line = c.args.line.now in
    let there = point_read line.axis line.at c.args.place c.point.result c.requires.place c.point.ensures in
    wide_ahead floor.scene.now floor.bit.now floor.limit line.axis line.at (subst (λ z. 1 ≤ z) floor.deepest_is floor.deep) floor.over floor.slope c.args.place c.clearance-clear.result _
    c.requires.good
    (subst (λ p. IsClearance (edges_of floor.scene.now) p c.clearance-clear.result) there c.clearance-clear.ensures.has)
    (wide_read floor.bit.now.sn floor.bit.now.sd (deepest_of floor.bit.now floor.limit) c.clearance-clear.result c.sn.result c.sd-2.result c.sd-3.result floor.deepest c.saturating_sub.result
    c.saturating_sub.ensures c.sn.ensures.value c.sd-2.ensures.value c.sd-3.ensures.value floor.deepest_is)

pub returns-clause-range : goal.returns-clause-range
returns-clause-range c =
    let floor = c.args.self.now in
    let within = c.clearance-clear.ensures.within in
    let most = c.min-most.ensures in
    let few = wide_few floor.bit.now.sd c.clearance-clear.result (floor.bit.now.sn * deepest_of floor.bit.now floor.limit) floor.over in
    subst (λ n. n ≤ MOST_DEPTH)
    (sym (wide_read floor.bit.now.sn floor.bit.now.sd (deepest_of floor.bit.now floor.limit) c.clearance-clear.result c.sn.result c.sd-2.result c.sd-3.result floor.deepest c.saturating_sub.result
    c.saturating_sub.ensures c.sn.ensures.value c.sd-2.ensures.value c.sd-3.ensures.value floor.deepest_is))
    (omega arith)
