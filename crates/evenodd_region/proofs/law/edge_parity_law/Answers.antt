-- Answers the goals of `edge_parity_law`.
use Rattle.evenodd_region.proofs.OneEdge.{edge_law}
use Rattle.evenodd_region.proofs.law.edge_parity_law.Goals as goal

pub returns : goal.returns
returns c = edge_law
