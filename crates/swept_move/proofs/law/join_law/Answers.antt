-- Answers the goals of `join_law`.
use Rattle.swept_move.proofs.Successive.{is_joined}
use Rattle.swept_move.proofs.law.join_law.Goals as goal

pub returns : goal.returns
returns c = is_joined
