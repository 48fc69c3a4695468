-- Answers the goals of `clear_of`.
use Rattle.swept_move.specs.Clear.{PassesEdge}
use Rattle.swept_move.proofs.clear.clear_of.Goals as goal

pub returns : goal.returns
unfolding PassesEdge
returns c = rw (c.new.ensures.start, c.new.ensures.finish) at c.passes.ensures
