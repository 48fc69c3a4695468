-- What is due for `strokes`: the G-code program that follows open lines at one depth. And what is known of it.
use Rattle.std.specs.Prelude.{◌≡◌, ◌↔◌, ◌⊎◌, ◌++◌, ℕ, List, [], ◌∷◌, length, map, Any, Ok}
use Rattle.coverage_report.specs.Report.{AreMany}
use Rattle.engrave_model.specs.Removal.{Removes}
use Rattle.gcode_text.specs.Moves.{moves_of}
use Rattle.gcode_text.specs.Path.{closing_text}
use Rattle.gcode_text.specs.Strokes.{cut_note, strokes_text}
use Rattle.gcode_text.specs.declared.job.Job.{Job}
use Rattle.grid_num.specs.declared.units.Units.{Units}
use Rattle.job_words.specs.declared.request.DrawingWords.{DrawingWords}
use Rattle.path_order.specs.Order.{IsOrder, chain_at}
use Rattle.plane_exact.specs.Cone.{Cone}
use Rattle.plane_exact.specs.Plane.{RationalPoint}
use Rattle.plane_exact.specs.declared.moves.LineMove.{LineMove}
use Rattle.plane_exact.specs.declared.point.Seg.{Seg}
use Rattle.stroke_engrave.specs.Chains.{chains_of}
use Rattle.stroke_engrave.specs.Cut.{AreStrokeCounts, IsStrokePoint}
use Rattle.stroke_engrave.specs.Disc.{IsInStrokes}
use Rattle.engrave_core.specs.Commands.Carve.{job_of}
use Rattle.engrave_core.specs.Drawing.{stored_strokes}
use Rattle.engrave_core.specs.Given.{IsGivenBy, Refuses}
use Rattle.engrave_core.specs.Refusals.{IsRefusalOfReport, IsRefusalOfStroked}
use Rattle.engrave_core.specs.Stored.{Files}
use Rattle.engrave_core.specs.declared.outcome.InputFault.TheVariants.{TooMany}
use Rattle.engrave_core.specs.declared.outcome.Kind.TheVariants.{Points}
use Rattle.engrave_core.specs.declared.outcome.Outcome.{Outcome}
use Rattle.engrave_core.specs.declared.outcome.Outcome.TheVariants.{Done}
use Rattle.engrave_core.specs.declared.refusal.Refusal.TheVariants.{Input}

-- the job of the words; of its limit and its step, which the program doesn't tell, the first is the depth
abbrev pub stroke_job : Units → Cone → (depth safe feed : ℕ) → Job
stroke_job units bit depth safe feed = job_of units bit 1 depth safe feed

-- the text ends with the counts, a note, and the program's end
pub record EndsWithCounts (cut points : ℕ) (text : List ℕ) : Type 0 where
  pub front : List ℕ
  pub is : text ≡ front ++ closing_text (cut_note cut points ∷ [])

-- The text, read back in the job's units, is a program of which some moment of some move removes a point, at any rational place, exactly
-- where the point is in the bit's open disc at the depth over some point of some stroke. And the numbers that it prints are those of such
-- points, and of all points, of the box round the strokes at the pitch.
pub record IsStrokeProgram (job : Job) (depth pitch : ℕ) (strokes : List Seg) (text : List ℕ) : Type 0 where
  pub moves : List LineMove
  pub read : moves_of job.units text ≡ Ok moves
  pub exact : (w : RationalPoint) → Any (λ move. Removes job.bit move.mv w) moves ↔ IsInStrokes job.bit depth strokes w
  pub cut : ℕ
  pub points : ℕ
  pub counts : AreStrokeCounts job.bit depth strokes pitch cut points
  pub printed : EndsWithCounts cut points text

-- Done, with the program along the strokes' chains in their order, with the counts; and it cuts these strokes
pub record IsEngraved (job : Job) (depth pitch : ℕ) (strokes : List Seg) (outcome : Outcome) (text : List ℕ) : Type 0 where
  pub done : outcome ≡ Done
  pub order : List ℕ
  pub ordered : IsOrder (chains_of depth strokes) order
  pub cut : ℕ
  pub points : ℕ
  pub counts : AreStrokeCounts job.bit depth strokes pitch cut points
  pub program : text ≡ strokes_text job (length strokes) depth (map (chain_at (chains_of depth strokes)) order) cut points
  pub good : IsStrokeProgram job depth pitch strokes text

-- the refusal of strokes with too many points round them
pub record IsUncounted (bit : Cone) (depth pitch : ℕ) (strokes : List Seg) (outcome : Outcome) (text : List ℕ) : Type 0 where
  pub many : AreMany (IsStrokePoint bit depth strokes pitch)
  pub refuses : Refuses (Input (TooMany Points)) outcome text

-- the program, or the refusal of too many points
abbrev pub IsEngravedOrRefused : Job → (depth pitch : ℕ) → List Seg → Outcome → List ℕ → Type 0
IsEngravedOrRefused job depth pitch strokes outcome text = IsEngraved job depth pitch strokes outcome text ⊎ IsUncounted job.bit depth pitch strokes outcome text

-- what is due for the strokes that the words name, or the refusal of them
abbrev pub IsDueOfStrokes : Files → DrawingWords → Job → (depth pitch : ℕ) → Outcome → List ℕ → Type 0
IsDueOfStrokes files shape job depth pitch outcome text = IsGivenBy (IsEngravedOrRefused job depth pitch) (stored_strokes files shape) outcome text

-- the refusals of the strokes, and of too many points
abbrev pub IsRefusalOfStrokes : DrawingWords → Outcome → Type 0
IsRefusalOfStrokes shape outcome = IsRefusalOfStroked shape.form outcome ⊎ IsRefusalOfReport outcome

-- the words name strokes, and the text is a program that cuts exactly these
pub record StoresEngraved (files : Files) (shape : DrawingWords) (job : Job) (depth pitch : ℕ) (text : List ℕ) : Type 0 where
  pub strokes : List Seg
  pub is : stored_strokes files shape ≡ Ok strokes
  pub good : IsStrokeProgram job depth pitch strokes text
