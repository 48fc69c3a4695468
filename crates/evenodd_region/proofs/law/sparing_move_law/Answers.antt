-- Answers the goals of `sparing_move_law`.
use Rattle.evenodd_region.proofs.Sparing.{sparing_is_safe}
use Rattle.evenodd_region.proofs.law.sparing_move_law.Goals as goal

pub returns : goal.returns
returns c = sparing_is_safe
