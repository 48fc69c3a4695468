-- Answers the goals of `repair_law`.
use Rattle.code_repair.proofs.Worth.{repaired}
use Rattle.code_repair.proofs.law.repair_law.Goals as goal

pub returns : goal.returns
returns c = repaired
