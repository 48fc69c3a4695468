-- Answers the goals of `beside_law`.
use Rattle.swept_move.proofs.Aside.{beside_is_clear}
use Rattle.swept_move.proofs.law.beside_law.Goals as goal

pub returns : goal.returns
returns c = beside_is_clear
