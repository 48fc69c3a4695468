-- The invariants of the loop of `least_near`.
use Rattle.std.specs.Prelude.{slice_index_or}
use Rattle.std.proofs.Common.{ℕ}
use Rattle.plane_exact.specs.declared.point.Seg.{Seg}
use Rattle.engrave_model.specs.Drawing.{edges_of}
use Rattle.depth_rule.specs.Least.{AtMost}
use Rattle.depth_rule.specs.Parts.{IsSettled}
use Rattle.depth_rule.proofs.Ahead.{AreNumbers}
use Rattle.depth_rule.proofs.Leasts.{IsLeastSoFar}
use Rattle.depth_rule.proofs.Mets.{IsMetHere}
use Rattle.depth_rule.proofs.met.least_near.Given as goal

abbrev pub invariant-loop-e : goal.invariant-loop-e
invariant-loop-e l = record {
  ahead : AreNumbers (edges_of l.scene) l.e-iterator;
  keeps : (k : ℕ) → AtMost l.fn.least k → AtMost l.lesser k;
  far : (d : Seg) → IsLeastSoFar (λ k. IsSettled l.fn.q l.before l.bit l.mv (slice_index_or (edges_of l.scene) k d)) (IsMetHere (edges_of l.scene) l.bit l.mv) (edges_of l.scene) l.lesser l.e-iterator;
}
