-- Answers the goals of `is_joined`.
use Rattle.std.proofs.Common.{◌≤◌, subst}
use Rattle.cleanup_pocket.proofs.Steps.{joined_by}
use Rattle.cleanup_pocket.proofs.StoredPlaces.{step_kept}
use Rattle.cleanup_pocket.proofs.deep.PocketFloor.is_joined.Goals as goal

pub returns : goal.returns
returns c =
    let floor = c.args.self.now in
    let line = c.args.line.now in
    joined_by floor.scene.now floor.bit.now floor.limit (subst (λ z. 1 ≤ z) floor.deepest_is floor.deep) floor.slope line.axis line.at c.args.place floor.deepest c.step.result c.is_clear.result floor.deepest_is
    (step_kept c.args.place line.high c.requires.place line.high_range c.requires.within line.axis line.at floor.deepest c.step.result c.step.ensures)
    c.requires.good c.is_clear.ensures
