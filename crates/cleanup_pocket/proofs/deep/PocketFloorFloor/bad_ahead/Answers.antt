-- Answers the goals of `bad_ahead`.
use Rattle.std.proofs.Common.{◌≤◌, ◌<◌, ◌+◌, ◌*◌, IsTrue, false, refl, rules, subst, sym, arith}
use Rattle.plane_exact.specs.Plane.{rational}
use Rattle.engrave_model.specs.Depth.{IsGreatestDepth}
use Rattle.engrave_model.specs.Drawing.{edges_of}
use Rattle.engrave_model.specs.Inside.{IsInside}
use Rattle.depth_rule.specs.Clearance.{IsClearance}
use Rattle.cleanup_pocket.specs.Pocket.{IsGood}
use Rattle.cleanup_pocket.proofs.Ahead.{deep_ahead, shallow_ahead}
use Rattle.cleanup_pocket.proofs.Near.{outside_ahead}
use Rattle.cleanup_pocket.proofs.Skips.{good_inside}
use Rattle.cleanup_pocket.proofs.StoredPlaces.{point_read}
use Rattle.cleanup_pocket.proofs.deep.PocketFloorFloor.bad_ahead.Goals as goal

never : IsTrue false → ⊥
never = search rules

pub returns-then-not-is_inside-clause-ahead : goal.returns-then-not-is_inside-clause-ahead
returns-then-not-is_inside-clause-ahead c =
    let floor = c.args.self.now in
    let line = c.args.line.now in
    let edges = edges_of floor.scene.now in
    let there = point_read line.axis line.at c.args.place c.point-p.result c.requires.place c.point-p.ensures in
    outside_ahead floor.scene.now line.axis line.at c.args.place c.clearance.result (subst (λ p. IsClearance edges p c.clearance.result) there c.clearance.ensures.has)
    (IsGood edges floor.bit.now floor.limit line.axis line.at) (good_inside floor.scene.now floor.bit.now floor.limit line.axis line.at (subst (λ z. 1 ≤ z) floor.deepest_is floor.deep)) _
    (λ inside. never (c.if-not-is_inside.ensures.1 (subst (λ p. IsInside edges (rational p)) (sym there) inside)))
    c.max.ensures

pub returns-then-depth-self-clause-ahead : goal.returns-then-depth-self-clause-ahead
returns-then-depth-self-clause-ahead c =
    let floor = c.args.self.now in
    let line = c.args.line.now in
    let edges = edges_of floor.scene.now in
    let there = point_read line.axis line.at c.args.place c.point-p.result c.requires.place c.point-p.ensures in
    let z = c.greatest_depth-depth.result in
    let n = c.shallow_ahead.result in
    shallow_ahead floor.scene.now floor.bit.now floor.limit line.axis line.at (subst (λ z. 1 ≤ z) floor.deepest_is floor.deep) floor.over c.args.place z n
    (subst (λ p. IsInside edges (rational p)) there (c.if-not-is_inside.ensures.0 refl))
    (subst (λ p. IsGreatestDepth edges floor.bit.now floor.limit p z) there c.greatest_depth-depth.ensures)
    (subst (λ deepest. z < deepest) floor.deepest_is c.if-depth-self.true)
    c.shallow_ahead.ensures.some
    (subst (λ deepest. floor.bit.now.sd * n + floor.bit.now.sn * (z + 1) ≤ floor.bit.now.sd + floor.bit.now.sn * deepest) floor.deepest_is c.shallow_ahead.ensures.reach)

pub returns-else-depth-self-clause-ahead : goal.returns-else-depth-self-clause-ahead
returns-else-depth-self-clause-ahead c =
    let floor = c.args.self.now in
    let line = c.args.line.now in
    let z = c.greatest_depth-depth.result in
    let is = floor.deepest_is in
    let more = c.if-depth-self.false in
    deep_ahead floor.scene.now floor.bit.now floor.limit line.axis line.at floor.slope c.args.place z
    (subst (λ p. IsGreatestDepth (edges_of floor.scene.now) floor.bit.now floor.limit p z) (point_read line.axis line.at c.args.place c.point-p.result c.requires.place c.point-p.ensures) c.greatest_depth-depth.ensures)
    (omega arith)
