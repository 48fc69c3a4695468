-- The invariants of the loop of `write_runs`.
use Rattle.std.proofs.Common.{◌≡◌, ◌++◌, All, flat_map, take}
use Rattle.plane_exact.specs.Uncut.{IsRun}
use Rattle.gcode_text.specs.Report.{run_line}
use Rattle.gcode_text.proofs.report.write_runs.Given as goal

abbrev pub invariant-loop-run : goal.invariant-loop-run
invariant-loop-run l =
    (l.out.items ≡ l.initial.out.items ++ flat_map (λ run. l.before ++ (run_line l.subject run ++ l.behind)) (take l.run-index l.runs))
    × All (λ run. IsRun run.y run.x0 run.x1) (take l.run-index l.runs)
