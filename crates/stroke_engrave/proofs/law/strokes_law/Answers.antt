-- Answers the goals of `strokes_law`.
use Rattle.stroke_engrave.proofs.Engraved.{strokes_cut}
use Rattle.stroke_engrave.proofs.law.strokes_law.Goals as goal

pub returns : goal.returns
returns c = strokes_cut
