-- Answers the goal of `write_run`.
use Rattle.std.proofs.Common.{rules, append_assoc}
use Rattle.std.proofs.lemmas.Result.{IfOk-equal}
use Rattle.gcode_text.specs.Report.{run_line}
use Rattle.gcode_text.proofs.report.write_run.Goals as goal

pub returns-clause-text : goal.returns-clause-text
unfolding run_line
returns-clause-text c = search (rules, IfOk-equal, append_assoc)
