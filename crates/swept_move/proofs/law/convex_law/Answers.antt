-- Answers the goals of `convex_law`.
use Rattle.swept_move.proofs.Convex.{convex}
use Rattle.swept_move.proofs.law.convex_law.Goals as goal

pub returns : goal.returns
returns c = convex
