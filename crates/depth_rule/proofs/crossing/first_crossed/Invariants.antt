-- The invariants of the loop of `first_crossed`.
use Rattle.engrave_model.specs.Drawing.{edges_of}
use Rattle.depth_rule.proofs.Ahead.{AreNumbers}
use Rattle.depth_rule.proofs.Crossings.{IsClearBehind, IsCrossedBehind}
use Rattle.depth_rule.proofs.Leasts.{IsLeastSoFar}
use Rattle.depth_rule.proofs.crossing.first_crossed.Given as goal

abbrev pub invariant-loop-j : goal.invariant-loop-j
invariant-loop-j l = record {
  ahead : AreNumbers (edges_of l.scene) l.j-iterator;
  far : IsLeastSoFar (IsClearBehind (edges_of l.scene) l.i) (IsCrossedBehind (edges_of l.scene) l.i) (edges_of l.scene) l.least l.j-iterator;
}
