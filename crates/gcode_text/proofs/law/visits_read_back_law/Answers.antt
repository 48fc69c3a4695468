-- Answers the goals of `visits_read_back_law`.
use Rattle.gcode_text.proofs.Visited.{visits_read_back}
use Rattle.gcode_text.proofs.law.visits_read_back_law.Goals as goal

pub returns : goal.returns
returns c = visits_read_back
