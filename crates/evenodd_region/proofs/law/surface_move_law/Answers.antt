-- Answers the goals of `surface_move_law`.
use Rattle.evenodd_region.proofs.Sparing.{surface_is_safe}
use Rattle.evenodd_region.proofs.law.surface_move_law.Goals as goal

pub returns : goal.returns
returns c = surface_is_safe
