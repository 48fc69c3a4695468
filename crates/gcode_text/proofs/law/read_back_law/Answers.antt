use Rattle.gcode_text.proofs.Chains.{read_back}
use Rattle.gcode_text.proofs.law.read_back_law.Goals as goal

pub returns : goal.returns
returns c = read_back
