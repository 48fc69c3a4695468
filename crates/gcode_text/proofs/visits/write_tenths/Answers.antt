-- Answers the goal of `write_tenths`.
use Rattle.std.proofs.Common.{rules, append_assoc}
use Rattle.std.proofs.lemmas.Result.{IfOk-equal}
use Rattle.gcode_text.proofs.visits.write_tenths.Goals as goal

pub returns : goal.returns
returns c = search (rules, IfOk-equal, append_assoc)
