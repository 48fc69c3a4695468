-- Answers the goals of `two_drawings_law`.
use Rattle.evenodd_region.proofs.TwoDrawings.{two_drawings}
use Rattle.evenodd_region.proofs.law.two_drawings_law.Goals as goal

pub returns : goal.returns
returns c = two_drawings
