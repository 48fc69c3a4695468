-- What is due for `carve`: the G-code program of the drawing's plan, with the report on what it leaves uncut. And what is known of it.
use Rattle.std.specs.Prelude.{◌≡◌, ◌⊎◌, ℕ, List, None, Ok, Some}
use Rattle.carve_plan.specs.Plan.{AskedPocket}
use Rattle.cleanup_pocket.specs.declared.axis.Way.TheVariants as way
use Rattle.gcode_text.specs.declared.job.Job.{Job}
use Rattle.grid_num.specs.declared.units.Units.{Units}
use Rattle.job_words.specs.declared.request.DrawingWords.{DrawingWords}
use Rattle.job_words.specs.declared.request.PocketWord.{PocketWord}
use Rattle.job_words.specs.declared.request.PocketWord.TheVariants as word
use Rattle.plane_exact.specs.Cone.{Cone}
use Rattle.plane_exact.specs.Nodes.{GridNode}
use Rattle.plane_exact.specs.Plane.{GridPoint}
use Rattle.plane_exact.specs.Uncut.{UncutPoints}
use Rattle.engrave_core.specs.Drawing.{IsDrawingOf, IsGivenByDrawing, ReadDrawing}
use Rattle.engrave_core.specs.Programs.{IsGoodProgram, IsProgramOf, IsRefusalOfProgram, IsUnprogrammed}
use Rattle.engrave_core.specs.Refusals.{IsRefusalOfDrawing}
use Rattle.engrave_core.specs.Stored.{Files}
use Rattle.engrave_core.specs.declared.outcome.Outcome.{Outcome}
use Rattle.engrave_core.specs.declared.outcome.Outcome.TheVariants.{Done}

-- the job of the words
abbrev pub job_of : Units → Cone → (step limit safe feed : ℕ) → Job
job_of units bit step limit safe feed = record { units = units; safe = safe; feed = feed; bit = bit; limit = limit; step = step }

-- the pocket of the words
abbrev pub pocket_of : PocketWord → (over : ℕ) → AskedPocket
pocket_of word.NoPocket over = None
pocket_of word.X over = Some (way.X, over)
pocket_of word.Y over = Some (way.Y, over)
pocket_of word.Both over = Some (way.Both, over)

-- Done, with the program of the drawing's plan and the report on its moves
pub record IsCarved (job : Job) (pitch : ℕ) (asked : AskedPocket) (loops : List (List GridPoint)) (outcome : Outcome) (text : List ℕ) : Type 0 where
  pub plan : List (List GridNode)
  pub uncut : UncutPoints
  pub program : IsProgramOf job pitch asked loops plan uncut text
  pub done : outcome ≡ Done

-- the program, or the refusal of the plan, or of the report
abbrev pub IsCarvedOrRefused : Job → (pitch : ℕ) → AskedPocket → List (List GridPoint) → Outcome → List ℕ → Type 0
IsCarvedOrRefused job pitch asked loops outcome text = IsCarved job pitch asked loops outcome text ⊎ IsUnprogrammed job pitch asked loops outcome text

-- what is due for the drawing, or the refusal of it
abbrev pub IsDueOfCarve : Files → DrawingWords → Job → (pitch : ℕ) → AskedPocket → Outcome → List ℕ → Type 0
IsDueOfCarve files shape job pitch asked outcome text =
    IsGivenByDrawing (λ drawing. IsCarvedOrRefused job pitch asked drawing.loops) files shape outcome text

-- the refusals of the drawing, of its plan and of the report
abbrev pub IsRefusalOfCarve : DrawingWords → Outcome → Type 0
IsRefusalOfCarve shape outcome = IsRefusalOfDrawing shape outcome ⊎ IsRefusalOfProgram outcome

-- the words name a drawing, and the text is a good program for it
pub record StoresWellCarved (files : Files) (shape : DrawingWords) (job : Job) (pitch : ℕ) (text : List ℕ) : Type 0 where
  pub drawing : ReadDrawing
  pub is : IsDrawingOf files shape (Ok drawing)
  pub good : IsGoodProgram job pitch drawing.loops text
