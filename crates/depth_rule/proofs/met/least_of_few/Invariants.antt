-- The invariants of the loop of `least_of_few`.
use Rattle.std.proofs.Common.{◌≤◌}
use Rattle.engrave_model.specs.Drawing.{edges_of}
use Rattle.depth_rule.proofs.Ahead.{AreNumbers}
use Rattle.depth_rule.proofs.Leasts.{IsLeastSoFar}
use Rattle.depth_rule.proofs.Mets.{IsMetHere, IsPassedAt}
use Rattle.depth_rule.proofs.met.least_of_few.Given as goal

abbrev pub invariant-loop-e : goal.invariant-loop-e
invariant-loop-e l = record {
  ahead : AreNumbers (edges_of l.scene) l.e-iterator;
  far : IsLeastSoFar (IsPassedAt (edges_of l.scene) l.bit l.mv) (IsMetHere (edges_of l.scene) l.bit l.mv) (edges_of l.scene) l.least l.e-iterator;
  few : l.tested ≤ 64;
}
