-- Answers the goals of `inside_box_law`.
use Rattle.evenodd_region.proofs.Bounds.{inside_in_box}
use Rattle.evenodd_region.proofs.law.inside_box_law.Goals as goal

pub returns : goal.returns
returns c = inside_in_box
