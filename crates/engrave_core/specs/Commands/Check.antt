-- What is due for `check`: the verdict on a G-code program, over a drawing. And what it says of the program.
use Rattle.std.specs.Prelude.{◌≡◌, ◌≢◌, ◌↔◌, ◌⊎◌, ℕ, List, Ok, ◌++◌, length, codes, decimal}
use Rattle.engrave_model.specs.Drawing.{edges_of}
use Rattle.engrave_model.specs.Removal.{IsSafeCode}
use Rattle.gouge_checker.specs.Harm.{IsFit, IsTrueNo}
use Rattle.gouge_checker.specs.Verdict.{IsVerdict}
use Rattle.gouge_checker.specs.declared.verdict.Verdict.{Verdict}
use Rattle.gouge_checker.specs.declared.verdict.Verdict.TheVariants.{Clear}
use Rattle.job_words.specs.declared.request.DrawingWords.{DrawingWords}
use Rattle.plane_exact.specs.Cone.{Cone}
use Rattle.plane_exact.specs.Plane.{GridPoint}
use Rattle.plane_exact.specs.declared.moves.LineMove.{LineMove}
use Rattle.plane_exact.specs.declared.point.Seg.{Seg}
use Rattle.engrave_core.specs.Drawing.{IsDrawingOf, IsGivenByDrawing, ReadDrawing}
use Rattle.engrave_core.specs.Given.{IsGivenBy, Refuses}
use Rattle.engrave_core.specs.Stored.{Files, stored_code}
use Rattle.engrave_core.specs.Refusals.{IsRefusalOfStoredCode, IsRefusalOfDrawing}
use Rattle.engrave_core.specs.declared.outcome.Outcome.{Outcome}
use Rattle.engrave_core.specs.declared.outcome.Outcome.TheVariants.{Done, NotClear, Memory}
use Rattle.engrave_core.specs.declared.refusal.Refusal.TheVariants as refusal

-- clear COUNT moves
abbrev pub clear_line : ℕ → List ℕ
clear_line count = codes "clear " ++ decimal count ++ codes " moves\n"

-- Done, with the line of so many clear moves
pub record IsCalledClear (count : ℕ) (outcome : Outcome) (text : List ℕ) : Type 0 where
  pub done : outcome ≡ Done
  pub line : text ≡ clear_line count

-- how a verdict on so many moves is reported
abbrev pub IsReportOf : ℕ → Verdict → Outcome → List ℕ → Type 0
IsReportOf count Clear outcome text = IsCalledClear count outcome text
IsReportOf count fault outcome text = Refuses (refusal.NotClear fault) outcome text

-- the verdict on the moves, over the drawing: clear exactly where they are fit, and where it is a gouge or outside, a real cut
pub record IsChecked (bit : Cone) (loops : List (List GridPoint)) (moves : List LineMove) (outcome : Outcome) (text : List ℕ) : Type 0 where
  pub verdict : Verdict
  pub is : IsVerdict (edges_of loops) bit moves verdict
  pub exact : (verdict ≡ Clear) ↔ IsFit (edges_of loops) bit moves
  pub harm : IsTrueNo (edges_of loops) bit moves verdict
  pub report : IsReportOf (length moves) verdict outcome text

-- the drawing first, and then the G-code program
abbrev pub IsDueOfCheck : Files → DrawingWords → List ℕ → Cone → Outcome → List ℕ → Type 0
IsDueOfCheck files shape code bit outcome text =
    IsGivenByDrawing
    (λ drawing outcome text. IsGivenBy (IsChecked bit drawing.loops) (stored_code files shape.units code) outcome text)
    files shape outcome text

-- the refusals of the moves
abbrev pub IsRefusalOfVerdict : Outcome → Type 0
IsRefusalOfVerdict (NotClear fault) = fault ≢ Clear
IsRefusalOfVerdict Memory = Unit {0}
IsRefusalOfVerdict other = ⊥

-- the refusals of the drawing, of the G-code program and of the verdict
abbrev pub IsRefusalOfCheck : DrawingWords → Outcome → Type 0
IsRefusalOfCheck shape outcome = IsRefusalOfDrawing shape outcome ⊎ (IsRefusalOfStoredCode outcome ⊎ IsRefusalOfVerdict outcome)

-- the words name a drawing and a stored G-code program, of which this is so
pub record StoresCode (files : Files) (shape : DrawingWords) (code : List ℕ) (IsSo : List Seg → List LineMove → Type 0) : Type 0 where
  pub drawing : ReadDrawing
  pub moves : List LineMove
  pub drawing_is : IsDrawingOf files shape (Ok drawing)
  pub code_is : stored_code files shape.units code ≡ Ok moves
  pub so : IsSo (edges_of drawing.loops) moves

-- no moment of any move removes a point outside the drawing
abbrev pub StoresSafeCode : Files → DrawingWords → List ℕ → Cone → Type 0
StoresSafeCode files shape code bit = StoresCode files shape code (λ edges moves. IsSafeCode edges bit moves)

-- nor is any too deep
abbrev pub StoresFitCode : Files → DrawingWords → List ℕ → Cone → Type 0
StoresFitCode files shape code bit = StoresCode files shape code (λ edges moves. IsFit edges bit moves)

-- some move is too deep or removes a point outside the drawing; for a gouge and outside, a move of the verdict's line removes one
abbrev pub StoresUnfitCode : Files → DrawingWords → List ℕ → Cone → Verdict → Type 0
StoresUnfitCode files shape code bit verdict =
    StoresCode files shape code (λ edges moves. (¬ IsFit edges bit moves) × IsTrueNo edges bit moves verdict)

-- what the outcome says of the stored code: Done, that it is fit, and a verdict, that it isn't, and why
abbrev pub IsTrueOfCheck : Files → DrawingWords → List ℕ → Cone → Outcome → Type 0
IsTrueOfCheck files shape code bit Done = StoresFitCode files shape code bit
IsTrueOfCheck files shape code bit (NotClear verdict) = StoresUnfitCode files shape code bit verdict
IsTrueOfCheck files shape code bit other = Unit {0}
