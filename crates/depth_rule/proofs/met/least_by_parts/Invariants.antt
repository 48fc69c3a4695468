-- The invariants of the loop of `least_by_parts`.
use Rattle.std.specs.Prelude.{IfSome}
use Rattle.std.proofs.Common.{◌≤◌}
use Rattle.engrave_model.specs.Drawing.{edges_of}
use Rattle.depth_rule.specs.Met.{IsMetAt}
use Rattle.depth_rule.proofs.Judged.{AreJudged, AreSeen, IsSparedTo}
use Rattle.depth_rule.proofs.met.least_by_parts.Given as goal

abbrev pub invariant-loop-k : goal.invariant-loop-k
invariant-loop-k l = record {
  met : IfSome l.least (IsMetAt (edges_of l.scene) l.bit l.mv);
  steep : 1 ≤ l.k → 1 ≤ l.bit.sn;
  seen : AreSeen (edges_of l.scene) l.bit l.mv l.before l.least;
  judged : AreJudged (edges_of l.scene) l.bit l.mv (IsSparedTo l.k l.bit l.mv) l.least;
}
