-- What the loop of `push_runs` keeps.
use Rattle.coverage_report.proofs.RunsFrom.{AreComing}
use Rattle.coverage_report.proofs.runs.push_runs.Given as goal

abbrev pub invariant-loop-i : goal.invariant-loop-i
invariant-loop-i l = AreComing l.row l.bits l.initial.runs.items l.runs.items l.going l.i
