-- Answers the goals of `joined_ahead`.
use mir.Syntax.{w32}
use Rattle.std.proofs.Common.{IsTrue, false, refl, rules, subst, sym}
use Rattle.std.proofs.lemmas.Int.{to_z-of_z}
use Rattle.engrave_model.specs.Drawing.{edges_of}
use Rattle.cleanup_pocket.specs.Floors.{IsJoinedBy}
use Rattle.cleanup_pocket.specs.Pocket.{IsClearWay, IsGood}
use Rattle.cleanup_pocket.proofs.Ahead.{none_ahead, one_ahead}
use Rattle.cleanup_pocket.proofs.deep.PocketFloorFloor.joined_ahead.Goals as goal

never : IsTrue false → ⊥
never = search rules

pub returns-then-is_joined-clause-ahead : goal.returns-then-is_joined-clause-ahead
returns-then-is_joined-clause-ahead c =
    let floor = c.args.self.now in
    one_ahead (IsJoinedBy (IsGood (edges_of floor.scene.now) floor.bit.now floor.limit) (IsClearWay (edges_of floor.scene.now) floor.bit.now floor.limit) c.args.line.now.axis c.args.line.now.at) c.args.place
    (subst (IsJoinedBy (IsGood (edges_of floor.scene.now) floor.bit.now floor.limit) (IsClearWay (edges_of floor.scene.now) floor.bit.now floor.limit) c.args.line.now.axis c.args.line.now.at) (to_z-of_z w32 c.args.place c.ranges.place) (c.if-is_joined.ensures.0 refl))

pub returns-else-is_joined-clause-ahead : goal.returns-else-is_joined-clause-ahead
returns-else-is_joined-clause-ahead c =
    let floor = c.args.self.now in
    none_ahead (IsJoinedBy (IsGood (edges_of floor.scene.now) floor.bit.now floor.limit) (IsClearWay (edges_of floor.scene.now) floor.bit.now floor.limit) c.args.line.now.axis c.args.line.now.at) c.args.place
    (λ joined. never (c.if-is_joined.ensures.1
    (subst (IsJoinedBy (IsGood (edges_of floor.scene.now) floor.bit.now floor.limit) (IsClearWay (edges_of floor.scene.now) floor.bit.now floor.limit) c.args.line.now.axis c.args.line.now.at) (sym (to_z-of_z w32 c.args.place c.ranges.place)) joined)))
