-- The invariants of the loop of `find_verdict`.
use Rattle.engrave_model.specs.Drawing.{edges_of}
use Rattle.gouge_checker.proofs.Verdicts.{IsDecidedBy}
use Rattle.gouge_checker.proofs.verdict.find_verdict.Given as goal

abbrev pub invariant-loop-line_move : goal.invariant-loop-line_move
invariant-loop-line_move l = IsDecidedBy (edges_of l.scene) l.bit l.moves l.line_move-index
