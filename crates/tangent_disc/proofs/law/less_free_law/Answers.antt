-- Answers the goals of `less_free_law`.
use Rattle.tangent_disc.proofs.Free.{less_free_is}
use Rattle.tangent_disc.proofs.law.less_free_law.Goals as goal

pub returns : goal.returns
returns c = less_free_is
