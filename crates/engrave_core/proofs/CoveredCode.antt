-- What `cover` writes with Done is the report on the stored program.
use Rattle.std.specs.Prelude.{◌≡◌, ℕ, List, Ok}
use Rattle.std.proofs.Common.{inl, inr}
use Rattle.coverage_report.specs.declared.fault.CoverFault.TheVariants.{TooManyPoints}
use Rattle.job_words.specs.declared.request.DrawingWords.{DrawingWords}
use Rattle.plane_exact.specs.Cone.{Cone}
use Rattle.plane_exact.specs.declared.moves.LineMove.{LineMove}
use Rattle.engrave_core.specs.Commands.Cover.{IsCoveredOrRefused, IsDueOfCover, StoresCovered}
use Rattle.engrave_core.specs.Drawing.{IsDrawingOf, ReadDrawing}
use Rattle.engrave_core.specs.Refusals.{cover_refusal}
use Rattle.engrave_core.specs.Stored.{Files, stored_code}
use Rattle.engrave_core.specs.declared.outcome.Outcome.TheVariants.{Done}
use Rattle.engrave_core.proofs.Done.{found, found_drawing, refusal_is_not_done}

covered_of : (files : Files) (shape : DrawingWords) (code : List ℕ) (bit : Cone) (pitch : ℕ) (text : List ℕ) (drawing : ReadDrawing) (moves : List LineMove)
    → IsDrawingOf files shape (Ok drawing) → stored_code files shape.units code ≡ Ok moves
    → IsCoveredOrRefused bit pitch drawing.loops moves Done text → StoresCovered files shape code bit pitch text
covered_of files shape code bit pitch text drawing moves drawing_is code_is (inl is) = record { drawing = drawing; moves = moves; drawing_is = drawing_is; code_is = code_is; told = is.told }
covered_of files shape code bit pitch text drawing moves drawing_is code_is (inr refused) = absurd (refusal_is_not_done (cover_refusal TooManyPoints) refused.refuses.refused)

-- what is due with Done is the report on the stored program
pub covered_is_told : (files : Files) (shape : DrawingWords) (code : List ℕ) (bit : Cone) (pitch : ℕ) (text : List ℕ)
    → IsDueOfCover files shape code bit pitch Done text → StoresCovered files shape code bit pitch text
covered_is_told files shape code bit pitch text due =
    let read = found_drawing _ files shape text due in
    let moves = found _ (stored_code files shape.units code) text read.gives in
    covered_of files shape code bit pitch text read.drawing moves.value read.is moves.is moves.gives
