-- Answers the goals of `exact_law`.
use Rattle.swept_move.proofs.Moves.{passes_exactly}
use Rattle.swept_move.proofs.law.exact_law.Goals as goal

pub returns : goal.returns
returns c = passes_exactly
