-- Answers the goals of `level_law`.
use Rattle.flat_bit.proofs.Floored.{levelled}
use Rattle.flat_bit.proofs.law.level_law.Goals as goal

pub returns : goal.returns
returns c = levelled
