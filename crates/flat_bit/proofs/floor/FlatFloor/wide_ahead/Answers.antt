-- Answers the goals of `wide_ahead`.
use Rattle.std.proofs.Common.{◌≤◌, arith, subst, sym}
use Rattle.plane_exact.specs.declared.moves.TheConstants.{MOST_DEPTH}
use Rattle.engrave_model.specs.Drawing.{edges_of}
use Rattle.depth_rule.specs.Clearance.{IsClearance}
use Rattle.depth_rule.specs.Deepest.{deepest_of}
use Rattle.cleanup_pocket.proofs.Ahead.{wide_few}
use Rattle.cleanup_pocket.proofs.StoredPlaces.{point_read}
use Rattle.flat_bit.specs.Flat.{flat_reach}
use Rattle.flat_bit.proofs.FlatAhead.{wide_ahead, wide_read}
use Rattle.flat_bit.proofs.floor.FlatFloor.wide_ahead.Goals as goal

pub returns-clause-joined : goal.returns-clause-joined
returns-clause-joined c =
    let floor = c.args.self.now in
    let line = c.args.line.now in
    let there = point_read line.axis line.at c.args.place c.point.result c.requires.place c.point.ensures in
    wide_ahead floor.scene.now floor.bit.now floor.limit floor.radius line.axis line.at floor.over.low floor.radius_range c.args.place c.clearance-clear.result c.requires.good
    (subst (λ p. IsClearance (edges_of floor.scene.now) p c.clearance-clear.result) there c.clearance-clear.ensures.has) _
    (wide_read floor.bit.now.sd (flat_reach floor.bit.now floor.radius (deepest_of floor.bit.now floor.limit)) c.clearance-clear.result floor.reach c.sd-2.result c.sd-3.result
    c.saturating_sub.result c.saturating_sub.ensures floor.reach_is c.sd-2.ensures.value c.sd-3.ensures.value)

pub returns-clause-range : goal.returns-clause-range
returns-clause-range c =
    let floor = c.args.self.now in
    let within = c.clearance-clear.ensures.within in
    let most = c.min-most.ensures in
    let reach = flat_reach floor.bit.now floor.radius (deepest_of floor.bit.now floor.limit) in
    let few = wide_few floor.bit.now.sd c.clearance-clear.result reach floor.over.low in
    subst (λ n. n ≤ MOST_DEPTH)
    (sym (wide_read floor.bit.now.sd reach c.clearance-clear.result floor.reach c.sd-2.result c.sd-3.result
    c.saturating_sub.result c.saturating_sub.ensures floor.reach_is c.sd-2.ensures.value c.sd-3.ensures.value))
    (omega arith)
