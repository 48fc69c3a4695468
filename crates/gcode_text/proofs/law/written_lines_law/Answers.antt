-- Answers the goals of `written_lines_law`.
use Rattle.gcode_text.proofs.Codes.{moves_of-code_text}
use Rattle.gcode_text.proofs.law.written_lines_law.Goals as goal

pub returns : goal.returns
returns c = moves_of-code_text
