-- Drawings that are taken, as the words say what becomes of edges that cross.
use Rattle.std.specs.Prelude.{◌≡◌, None, Ok}
use Rattle.std.proofs.Common.{ap}
use Rattle.engrave_model.specs.Drawing.{edges_of}
use Rattle.job_words.specs.declared.request.CrossWord.{CrossWord}
use Rattle.job_words.specs.declared.request.CrossWord.TheVariants as cross
use Rattle.engrave_core.specs.Drawing.{IsGuarded, IsRefusedCrossing, ReadDrawing}

-- where no crossing is refused, the drawing is taken
pub guarded_none : (word : CrossWord) (drawing answer : ReadDrawing) → answer ≡ drawing → IsRefusedCrossing word (edges_of drawing.loops) None → IsGuarded word drawing (Ok answer)
guarded_none cross.Refuse drawing answer same none = record { same = same; none = none }
guarded_none cross.Evenodd drawing answer same none = ap Ok same
