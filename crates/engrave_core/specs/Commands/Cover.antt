-- What is due for `cover`: the report on what a G-code program leaves uncut of a drawing. And what is known of it.
use Rattle.std.specs.Prelude.{◌≡◌, ◌⊎◌, ℕ, List, [], Ok, codes}
use Rattle.coverage_report.specs.Report.{HasManyPoints, IsReportOn}
use Rattle.gcode_text.specs.Report.{lines_between, report_lines}
use Rattle.gcode_text.specs.declared.report.Subject.TheVariants.{Uncut}
use Rattle.job_words.specs.declared.request.DrawingWords.{DrawingWords}
use Rattle.plane_exact.specs.Cone.{Cone}
use Rattle.plane_exact.specs.Plane.{GridPoint}
use Rattle.plane_exact.specs.Uncut.{UncutPoints}
use Rattle.plane_exact.specs.declared.moves.LineMove.{LineMove}
use Rattle.engrave_core.specs.Drawing.{IsDrawingOf, IsGivenByDrawing, ReadDrawing}
use Rattle.engrave_core.specs.Given.{IsGivenBy, Refuses}
use Rattle.engrave_core.specs.Stored.{Files, stored_code}
use Rattle.engrave_core.specs.Refusals.{IsRefusalOfReport, IsRefusalOfStoredCode, IsRefusalOfDrawing}
use Rattle.engrave_core.specs.declared.outcome.InputFault.TheVariants.{TooMany}
use Rattle.engrave_core.specs.declared.outcome.Kind.TheVariants.{Points}
use Rattle.engrave_core.specs.declared.outcome.Outcome.{Outcome}
use Rattle.engrave_core.specs.declared.outcome.Outcome.TheVariants.{Done}
use Rattle.engrave_core.specs.declared.refusal.Refusal.TheVariants.{Input}

-- the lines of the report
abbrev pub cover_text : UncutPoints → List ℕ
cover_text uncut = lines_between [] (codes "\n") (report_lines Uncut uncut)

-- the text is the report on the moves: the points of it inside the drawing that no moment of any move removes
pub record IsTold (bit : Cone) (pitch : ℕ) (loops : List (List GridPoint)) (moves : List LineMove) (text : List ℕ) : Type 0 where
  pub uncut : UncutPoints
  pub report : IsReportOn loops bit moves pitch uncut
  pub lines : text ≡ cover_text uncut

-- Done, with the report
pub record IsCovered (bit : Cone) (pitch : ℕ) (loops : List (List GridPoint)) (moves : List LineMove) (outcome : Outcome) (text : List ℕ) : Type 0 where
  pub done : outcome ≡ Done
  pub told : IsTold bit pitch loops moves text

-- the refusal of a report of too many points
pub record IsRefusedReport (pitch : ℕ) (loops : List (List GridPoint)) (outcome : Outcome) (text : List ℕ) : Type 0 where
  pub many : HasManyPoints loops pitch
  pub refuses : Refuses (Input (TooMany Points)) outcome text

-- the report, or the refusal of it
abbrev pub IsCoveredOrRefused : Cone → (pitch : ℕ) → List (List GridPoint) → List LineMove → Outcome → List ℕ → Type 0
IsCoveredOrRefused bit pitch loops moves outcome text = IsCovered bit pitch loops moves outcome text ⊎ IsRefusedReport pitch loops outcome text

-- the drawing first, and then the G-code program
abbrev pub IsDueOfCover : Files → DrawingWords → List ℕ → Cone → (pitch : ℕ) → Outcome → List ℕ → Type 0
IsDueOfCover files shape code bit pitch outcome text =
    IsGivenByDrawing
    (λ drawing outcome text. IsGivenBy (IsCoveredOrRefused bit pitch drawing.loops) (stored_code files shape.units code) outcome text)
    files shape outcome text

-- the refusals of the drawing, of the G-code program and of the report
abbrev pub IsRefusalOfCover : DrawingWords → Outcome → Type 0
IsRefusalOfCover shape outcome = IsRefusalOfDrawing shape outcome ⊎ (IsRefusalOfStoredCode outcome ⊎ IsRefusalOfReport outcome)

-- the words name a drawing and a stored G-code program, and the text is the report on its moves
pub record StoresCovered (files : Files) (shape : DrawingWords) (code : List ℕ) (bit : Cone) (pitch : ℕ) (text : List ℕ) : Type 0 where
  pub drawing : ReadDrawing
  pub moves : List LineMove
  pub drawing_is : IsDrawingOf files shape (Ok drawing)
  pub code_is : stored_code files shape.units code ≡ Ok moves
  pub told : IsTold bit pitch drawing.loops moves text
