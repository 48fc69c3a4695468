-- What the loop of `is_apart` keeps.
use Rattle.engrave_model.specs.Drawing.{edges_of}
use Rattle.segment_grid.proofs.NearLaws.{Done}
use Rattle.depth_rule.proofs.Ahead.{AreNumbers}
use Rattle.flat_bit.proofs.Aparts.{IsNumberApart}
use Rattle.flat_bit.proofs.apart.is_apart.Given as goal

abbrev pub invariant-loop-e : goal.invariant-loop-e
invariant-loop-e l = record {
  ahead : AreNumbers (edges_of l.scene) l.e-iterator;
  done : Done (IsNumberApart l.reach l.over l.p (edges_of l.scene)) (edges_of l.scene) l.e-iterator;
}
