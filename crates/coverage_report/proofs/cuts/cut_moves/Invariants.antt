-- What the loop of `cut_moves` keeps.
use Rattle.std.proofs.Common.{take}
use Rattle.coverage_report.specs.Cuts.{AreAdded, IsCut}
use Rattle.coverage_report.proofs.cuts.cut_moves.Given as goal

abbrev pub invariant-loop-line_move : goal.invariant-loop-line_move
invariant-loop-line_move l = AreAdded (IsCut l.bit (take l.line_move-index l.moves)) l.lattice l.width l.initial.words l.words
