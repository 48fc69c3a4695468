-- Answers the goals of `pocket_law`.
use Rattle.cleanup_pocket.proofs.Sound.{pocket_sound}
use Rattle.cleanup_pocket.proofs.law.pocket_law.Goals as goal

pub returns : goal.returns
returns c = pocket_sound
