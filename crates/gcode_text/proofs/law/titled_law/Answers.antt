use Rattle.gcode_text.proofs.Chains.{titled_read_back}
use Rattle.gcode_text.proofs.law.titled_law.Goals as goal

pub returns : goal.returns
returns c = titled_read_back
