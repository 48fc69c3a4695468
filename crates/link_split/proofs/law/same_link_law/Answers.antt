-- Answers the goals of `same_link_law`.
use Rattle.link_split.proofs.Single.{link_single}
use Rattle.link_split.proofs.law.same_link_law.Goals as goal

pub returns : goal.returns
returns c = link_single
