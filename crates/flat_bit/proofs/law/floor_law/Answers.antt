-- Answers the goals of `floor_law`.
use Rattle.flat_bit.proofs.Floored.{floored}
use Rattle.flat_bit.proofs.law.floor_law.Goals as goal

pub returns : goal.returns
returns c = floored
