-- The invariants of the loop of `judge_pieces`.
use Rattle.std.proofs.Common.{◌≡◌, ◌≤◌, ◌+◌, ◌-◌, IfSome}
use Rattle.engrave_model.specs.Drawing.{edges_of}
use Rattle.gcode_text.specs.declared.state.TheConstants.{MOST_CODE_BYTES}
use Rattle.engrave_core.specs.Judging.{IsJudgedTo}
use Rattle.engrave_core.proofs.StreamedCode.{IsReadTo}
use Rattle.engrave_core.proofs.stream.judge_pieces.Given as goal

abbrev pub invariant-pieces : goal.invariant-pieces
invariant-pieces g l = record {
  under : l.at ≤ MOST_CODE_BYTES;
  units : l.judged.stepper.units ≡ l.fn.units;
  fed : l.judged.stepper.fed ≡ l.at;
  value : IfSome (g.D.Depot.held l.initial.depot) (λ files. IsReadTo (files l.name) l.at
      (λ bytes. IsJudgedTo (edges_of l.scene) l.bit bytes l.judged.stepper l.judged.verdict l.judged.count));
  same : g.D.Depot.held l.depot ≡ g.D.Depot.held l.initial.depot;
  misses : g.D.Depot.misses l.initial.depot ≤ g.D.Depot.misses l.depot;
  faults : g.D.Depot.faults l.initial.depot ≤ g.D.Depot.faults l.depot;
}

abbrev pub decreases-pieces : goal.decreases-pieces
decreases-pieces g l = MOST_CODE_BYTES + 1 - l.at
