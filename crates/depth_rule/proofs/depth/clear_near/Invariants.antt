-- The invariants of the loop of `clear_near`.
use Rattle.engrave_model.specs.Drawing.{edges_of}
use Rattle.depth_rule.proofs.Ahead.{AreNumbers}
use Rattle.depth_rule.proofs.Deepening.{IsSoFar}
use Rattle.depth_rule.proofs.depth.clear_near.Given as goal

abbrev pub invariant-loop-e : goal.invariant-loop-e
invariant-loop-e l = record {
  ahead : AreNumbers (edges_of l.scene) l.e-iterator;
  far : IsSoFar l.bit l.p (edges_of l.scene) l.most l.depth l.e-iterator;
}
