-- The invariants of the loop of `Scene::first_crossing`.
use Rattle.std.proofs.Common.{ℕ, ◌<◌, ◌-◌}
use Rattle.engrave_model.specs.Crossing.{IsCrossPair}
use Rattle.engrave_model.specs.Drawing.{edges_of}
use Rattle.depth_rule.proofs.scene.Scene.first_crossing.Given as goal

abbrev pub invariant-loop-i : goal.invariant-loop-i
invariant-loop-i l = (k j : ℕ) → k < l.i → ¬ IsCrossPair (edges_of l.self) k j

abbrev pub decreases-loop-i : goal.decreases-loop-i
decreases-loop-i l = l.count - l.i
