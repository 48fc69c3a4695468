-- Answers the goals of `near_ahead`.
use Rattle.std.proofs.Common.{◌/◌, ◌+◌, IsTrue, false, ap₂, arith, refl, rules, subst}
use Rattle.engrave_model.specs.Drawing.{edges_of}
use Rattle.depth_rule.specs.Clearance.{IsClearance}
use Rattle.depth_rule.specs.Greatest.{IsGreatestUpTo}
use Rattle.cleanup_pocket.proofs.StoredPlaces.{point_read}
use Rattle.flat_bit.proofs.FlatAhead.{apart_read, bad_ahead, far_good, few_whole, good_ahead, near_ahead}
use Rattle.flat_bit.proofs.floor.FlatFloor.near_ahead.Goals as goal

never : IsTrue false → ⊥
never = search rules

pub clearance-clear-requires : goal.clearance-clear-requires
clearance-clear-requires c =
    let floor = c.args.self.now in
    let few = few_whole floor.bit.now.sd floor.reach c.sd.result floor.reach_range c.sd.ensures.value in
    omega arith

pub returns-then-clear-whole-clause-ahead : goal.returns-then-clear-whole-clause-ahead
returns-then-clear-whole-clause-ahead c =
    let floor = c.args.self.now in
    let line = c.args.line.now in
    let there = point_read line.axis line.at c.args.place c.point-p.result c.requires.place c.point-p.ensures in
    near_ahead floor.scene.now floor.bit.now floor.limit floor.radius line.axis line.at floor.over.low c.args.place c.clearance-clear.result _ _
    (subst (λ p. IsGreatestUpTo (IsClearance (edges_of floor.scene.now) p) (floor.reach / c.sd.result + 1) c.clearance-clear.result) there c.clearance-clear.ensures)
    (ap₂ (λ a b. a / b) floor.reach_is c.sd.ensures.value) c.if-clear-whole.true (omega arith)

pub returns-then-clear-whole-clause-range : goal.returns-then-clear-whole-clause-range
returns-then-clear-whole-clause-range c =
    let floor = c.args.self.now in
    let few = few_whole floor.bit.now.sd floor.reach c.sd.result floor.reach_range c.sd.ensures.value in
    omega arith

pub returns-then-clear-whole-2-clause-ahead : goal.returns-then-clear-whole-2-clause-ahead
returns-then-clear-whole-2-clause-ahead c =
    let floor = c.args.self.now in
    let line = c.args.line.now in
    let there = point_read line.axis line.at c.args.place c.point-p.result c.requires.place c.point-p.ensures in
    good_ahead floor.scene.now floor.bit.now floor.limit floor.radius line.axis line.at floor.over.low c.args.place
    (far_good floor.scene.now floor.bit.now floor.limit floor.radius line.axis line.at floor.over.low c.args.place c.clearance-clear.result _ c.requires.inside
    (subst (λ p. IsClearance (edges_of floor.scene.now) p c.clearance-clear.result) there c.clearance-clear.ensures.has)
    (ap₂ (λ a b. a / b) floor.reach_is c.sd.ensures.value) c.if-clear-whole-2.true)

pub returns-then-is_apart-clause-ahead : goal.returns-then-is_apart-clause-ahead
returns-then-is_apart-clause-ahead c =
    let floor = c.args.self.now in
    let line = c.args.line.now in
    let there = point_read line.axis line.at c.args.place c.point-p.result c.requires.place c.point-p.ensures in
    let apart = apart_read floor.scene.now floor.bit.now floor.limit floor.radius line.axis line.at floor.over.low c.args.place c.point-p.result floor.reach _ _ there floor.reach_is
    c.sd-else-clear-whole-2.ensures.value c.if-is_apart.ensures in
    good_ahead floor.scene.now floor.bit.now floor.limit floor.radius line.axis line.at floor.over.low c.args.place (record { inside = c.requires.inside; apart = apart.0 refl })

pub returns-else-is_apart-clause-ahead : goal.returns-else-is_apart-clause-ahead
returns-else-is_apart-clause-ahead c =
    let floor = c.args.self.now in
    let line = c.args.line.now in
    let there = point_read line.axis line.at c.args.place c.point-p.result c.requires.place c.point-p.ensures in
    let apart = apart_read floor.scene.now floor.bit.now floor.limit floor.radius line.axis line.at floor.over.low c.args.place c.point-p.result floor.reach _ _ there floor.reach_is
    c.sd-else-clear-whole-2.ensures.value c.if-is_apart.ensures in
    bad_ahead floor.scene.now floor.bit.now floor.limit floor.radius line.axis line.at floor.over.low c.args.place (λ good. never (apart.1 good.apart))
