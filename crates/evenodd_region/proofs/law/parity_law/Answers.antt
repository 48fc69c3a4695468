-- Answers the goals of `parity_law`.
use Rattle.evenodd_region.proofs.Rounds.{parity}
use Rattle.evenodd_region.proofs.law.parity_law.Goals as goal

pub returns : goal.returns
returns c = parity
