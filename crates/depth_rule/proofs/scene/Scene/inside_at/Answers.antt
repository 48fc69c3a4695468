-- Answers the goals of `Scene::inside_at`.
use Rattle.std.specs.Prelude.{FitsSigned}
use Rattle.std.specs.Int.{w128}
use Rattle.std.proofs.Common.{subst}
use Rattle.std.proofs.lemmas.Int.{to_z-of_z}
use Rattle.evenodd_region.specs.Lookup.{AreRowsOf}
use Rattle.depth_rule.proofs.scene.Scene.inside_at.Goals as goal

pub returns : goal.returns
returns c =
    let x : FitsSigned w128 c.args.x = c.ranges.x in
    let y : FitsSigned w128 c.args.y = c.ranges.y in
    let den : FitsSigned w128 c.args.den = c.ranges.den in
    λ w is. c.inside_ratio.ensures c.args.self.now w
    (subst (AreRowsOf c.self.inside.rows) c.self.view_is c.self.invariant.in_rows)
    (simp to_z-of_z is)
