-- Answers the goals of `bad_ahead`.
use Rattle.std.proofs.Common.{IsTrue, false, rules, subst, sym}
use Rattle.plane_exact.specs.Plane.{rational}
use Rattle.engrave_model.specs.Drawing.{edges_of}
use Rattle.engrave_model.specs.Inside.{IsInside}
use Rattle.depth_rule.specs.Clearance.{IsClearance}
use Rattle.cleanup_pocket.proofs.Near.{outside_ahead}
use Rattle.cleanup_pocket.proofs.StoredPlaces.{point_read}
use Rattle.flat_bit.specs.Flat.{IsFlatGood}
use Rattle.flat_bit.proofs.floor.FlatFloorFloor.bad_ahead.Goals as goal

never : IsTrue false → ⊥
never = search rules

pub returns-else-is_inside-clause-ahead : goal.returns-else-is_inside-clause-ahead
returns-else-is_inside-clause-ahead c =
    let floor = c.args.self.now in
    let line = c.args.line.now in
    let edges = edges_of floor.scene.now in
    let there = point_read line.axis line.at c.args.place c.point-p.result c.requires.place c.point-p.ensures in
    outside_ahead floor.scene.now line.axis line.at c.args.place c.clearance.result (subst (λ p. IsClearance edges p c.clearance.result) there c.clearance.ensures.has)
    (IsFlatGood edges floor.bit.now floor.limit floor.radius line.axis line.at) (λ t good. good.inside) _
    (λ inside. never (c.if-is_inside.ensures.1 (subst (λ p. IsInside edges (rational p)) (sym there) inside)))
    c.max.ensures
