-- Answers the goals of `successive_law`.
use Rattle.swept_move.proofs.Successive.{are_joined}
use Rattle.swept_move.proofs.law.successive_law.Goals as goal

pub returns : goal.returns
returns c = are_joined
