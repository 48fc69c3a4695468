-- What is due for `repair`: a G-code program in which moves that aren't clear for a drawing have become lifts. And what is known of it.
use Rattle.std.specs.Prelude.{◌≡◌, ◌⊎◌, ◌↔◌, ℕ, List, Ok, length}
use Rattle.code_repair.specs.Fault.{HasManyVisits}
use Rattle.code_repair.specs.Law.{KeepsClear, RemovesByAny}
use Rattle.code_repair.specs.Repair.{IsRepair}
use Rattle.engrave_model.specs.Drawing.{edges_of}
use Rattle.engrave_model.specs.Removal.{IsSafeCode}
use Rattle.gcode_text.specs.Moves.{moves_of}
use Rattle.gcode_text.specs.Visits.{visits_text}
use Rattle.gouge_checker.specs.Verdict.{IsVerdict}
use Rattle.gouge_checker.specs.declared.verdict.Verdict.TheVariants.{Clear}
use Rattle.grid_num.specs.declared.units.Units.{Units}
use Rattle.job_words.specs.declared.request.DrawingWords.{DrawingWords}
use Rattle.plane_exact.specs.Cone.{Cone}
use Rattle.plane_exact.specs.Heights.{GridPlace}
use Rattle.plane_exact.specs.Plane.{GridPoint, RationalPoint}
use Rattle.plane_exact.specs.declared.moves.LineMove.{LineMove}
use Rattle.engrave_core.specs.Drawing.{IsDrawingOf, IsGivenByDrawing, ReadDrawing}
use Rattle.engrave_core.specs.Given.{IsGivenBy, Refuses}
use Rattle.engrave_core.specs.Stored.{Files, stored_code}
use Rattle.engrave_core.specs.Refusals.{IsRefusalOfDrawing, IsRefusalOfStoredCode, IsRefusalOfVisits}
use Rattle.engrave_core.specs.declared.outcome.InputFault.TheVariants.{TooMany}
use Rattle.engrave_core.specs.declared.outcome.Kind.TheVariants.{Moves}
use Rattle.engrave_core.specs.declared.outcome.Outcome.{Outcome}
use Rattle.engrave_core.specs.declared.outcome.Outcome.TheVariants.{Done}
use Rattle.engrave_core.specs.declared.refusal.Refusal.TheVariants.{Input}

-- The text, read back in the units, is a program that is called clear, so that no moment of it removes a point outside the drawing; no
-- moment of it removes a point that the read moves don't remove; and the clear ones of these are moves of it, in their order. No move
-- was changed exactly where the read moves are called clear.
pub record IsGoodRepair (units : Units) (bit : Cone) (loops : List (List GridPoint)) (moves : List LineMove) (changed : ℕ) (text : List ℕ) : Type 0 where
  pub path : List LineMove
  pub read : moves_of units text ≡ Ok path
  pub clear : IsVerdict (edges_of loops) bit path Clear
  pub safe : IsSafeCode (edges_of loops) bit path
  pub no_more : (w : RationalPoint) → RemovesByAny bit path w → RemovesByAny bit moves w
  pub keeps : KeepsClear (edges_of loops) bit moves path
  pub unchanged : (changed ≡ 0) ↔ IsVerdict (edges_of loops) bit moves Clear

-- the text is the program through the visits of the repair, headed by the number of changed moves and that of all; and it is a good one
pub record IsRepairText (units : Units) (bit : Cone) (safe feed : ℕ) (loops : List (List GridPoint)) (moves : List LineMove) (text : List ℕ) : Type 0 where
  pub visits : List GridPlace
  pub changed : ℕ
  pub is : IsRepair (edges_of loops) bit safe moves visits changed
  pub lines : text ≡ visits_text units safe feed changed (length moves) visits
  pub good : IsGoodRepair units bit loops moves changed text

-- Done, with the repaired program
pub record IsMended (units : Units) (bit : Cone) (safe feed : ℕ) (loops : List (List GridPoint)) (moves : List LineMove) (outcome : Outcome) (text : List ℕ) : Type 0 where
  pub done : outcome ≡ Done
  pub mended : IsRepairText units bit safe feed loops moves text

-- the refusal of a repair with too many visits, each of which would be a move
pub record IsRefusedRepair (bit : Cone) (safe : ℕ) (loops : List (List GridPoint)) (moves : List LineMove) (outcome : Outcome) (text : List ℕ) : Type 0 where
  pub many : HasManyVisits (edges_of loops) bit safe moves
  pub refuses : Refuses (Input (TooMany Moves)) outcome text

-- the repaired program, or the refusal of it
abbrev pub IsMendedOrRefused : Units → Cone → (safe feed : ℕ) → List (List GridPoint) → List LineMove → Outcome → List ℕ → Type 0
IsMendedOrRefused units bit safe feed loops moves outcome text =
    IsMended units bit safe feed loops moves outcome text ⊎ IsRefusedRepair bit safe loops moves outcome text

-- the drawing first, and then the G-code program
abbrev pub IsDueOfRepair : Files → DrawingWords → List ℕ → Cone → (safe feed : ℕ) → Outcome → List ℕ → Type 0
IsDueOfRepair files shape code bit safe feed outcome text =
    IsGivenByDrawing
    (λ drawing outcome text. IsGivenBy (IsMendedOrRefused shape.units bit safe feed drawing.loops) (stored_code files shape.units code) outcome text)
    files shape outcome text

-- the refusals of the drawing, of the G-code program and of the repair
abbrev pub IsRefusalOfRepair : DrawingWords → Outcome → Type 0
IsRefusalOfRepair shape outcome = IsRefusalOfDrawing shape outcome ⊎ (IsRefusalOfStoredCode outcome ⊎ IsRefusalOfVisits outcome)

-- the words name a drawing and a stored G-code program, and the text is the good repair of that
pub record StoresRepaired (files : Files) (shape : DrawingWords) (code : List ℕ) (bit : Cone) (safe feed : ℕ) (text : List ℕ) : Type 0 where
  pub drawing : ReadDrawing
  pub moves : List LineMove
  pub drawing_is : IsDrawingOf files shape (Ok drawing)
  pub code_is : stored_code files shape.units code ≡ Ok moves
  pub mended : IsRepairText shape.units bit safe feed drawing.loops moves text
