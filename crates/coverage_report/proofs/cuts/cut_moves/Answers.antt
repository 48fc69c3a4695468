-- Answers the goals of `cut_moves`.
use Rattle.std.proofs.Common.{arith}
use Rattle.coverage_report.proofs.CutGrids.{move_more, none_by}
use Rattle.coverage_report.proofs.cuts.cut_moves.Goals as goal

pub loop-line_move-init : goal.loop-line_move-init
loop-line_move-init c = none_by c.args.bit.now c.args.lattice.now c.args.width c.args.moves.now c.args.words.now

pub loop-line_move-preserved : goal.loop-line_move-preserved
loop-line_move-preserved c =
    move_more c.args.bit.now c.args.lattice.now c.args.width c.args.moves.now c.loop-line_move.line_move-index c.line_move-item.result c.args.words.now c.loop-line_move.words
    c.cut_rows.new.words (omega arith) c.line_move-item.is c.loop-line_move.invariant c.cut_rows.ensures
