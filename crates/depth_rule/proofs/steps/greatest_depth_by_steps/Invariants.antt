-- The invariants of the loop of `greatest_depth_by_steps`.
use Rattle.std.proofs.Common.{◌≤◌, ℕ}
use Rattle.engrave_model.specs.Depth.{Fits}
use Rattle.depth_rule.proofs.steps.greatest_depth_by_steps.Given as goal

abbrev pub invariant-loop-z : goal.invariant-loop-z
invariant-loop-z l = (l.z ≤ l.limit) × ((y : ℕ) → Fits l.edges l.bit l.limit l.p y → y ≤ l.z)

abbrev pub decreases-loop-z : goal.decreases-loop-z
decreases-loop-z l = l.z
