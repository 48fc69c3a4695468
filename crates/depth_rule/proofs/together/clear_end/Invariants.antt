-- What the loop of `clear_end` keeps.
use Rattle.engrave_model.specs.Drawing.{edges_of}
use Rattle.segment_grid.proofs.NearLaws.{Done}
use Rattle.depth_rule.proofs.Ahead.{AreNumbers}
use Rattle.depth_rule.proofs.Following.{IsBehindAll}
use Rattle.depth_rule.proofs.together.clear_end.Given as goal

abbrev pub invariant-loop-j : goal.invariant-loop-j
invariant-loop-j l = record {
  ahead : AreNumbers (edges_of l.scene) l.j-iterator;
  done : Done (IsBehindAll (edges_of l.scene) l.i) (edges_of l.scene) l.j-iterator;
}
