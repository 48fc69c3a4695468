-- What the loop of `count_rows` keeps.
use Rattle.coverage_report.specs.Counts.{IsCountIn}
use Rattle.coverage_report.specs.Cuts.{IsCut}
use Rattle.coverage_report.proofs.count.count_rows.Given as goal

abbrev pub invariant-loop-k : goal.invariant-loop-k
invariant-loop-k l = IsCountIn l.lattice l.k (IsCut l.bit l.moves) l.cut
