-- What is due for `flat`: the G-code program by which a flat bit mills the floor. And what is known of it.
use Rattle.std.specs.Prelude.{◌≡◌, ◌≤◌, ◌⊎◌, ◌++◌, ℕ, List, length, map, Any, Ok}
use Rattle.cleanup_pocket.specs.Fault.{HasManyChains}
use Rattle.cleanup_pocket.specs.declared.axis.Way.{Way}
use Rattle.cleanup_pocket.specs.declared.axis.Way.TheVariants as way
use Rattle.coverage_report.specs.Report.{HasManyPoints}
use Rattle.engrave_model.specs.Drawing.{edges_of}
use Rattle.flat_bit.specs.Flat.{IsFlat}
use Rattle.flat_bit.specs.Left.{IsFloorReport}
use Rattle.flat_bit.specs.Target.{Depth, IsInTarget, Mills}
use Rattle.gcode_text.specs.Flat.{flat_text}
use Rattle.gcode_text.specs.Moves.{moves_of}
use Rattle.gcode_text.specs.Path.{chain_moves, closing_text}
use Rattle.gcode_text.specs.Report.{report_lines}
use Rattle.gcode_text.specs.declared.job.Job.{Job}
use Rattle.gcode_text.specs.declared.report.Subject.TheVariants.{Floor}
use Rattle.grid_num.specs.declared.units.Units.{Units}
use Rattle.job_words.specs.declared.request.DrawingWords.{DrawingWords}
use Rattle.job_words.specs.declared.request.PocketWord.{PocketWord}
use Rattle.job_words.specs.declared.request.PocketWord.TheVariants as word
use Rattle.path_order.specs.Order.{IsOrder, chain_at}
use Rattle.plane_exact.specs.Cone.{Cone}
use Rattle.plane_exact.specs.Nodes.{GridNode}
use Rattle.plane_exact.specs.Plane.{GridPoint, RationalPoint}
use Rattle.plane_exact.specs.Uncut.{UncutPoints}
use Rattle.plane_exact.specs.declared.moves.LineMove.{LineMove}
use Rattle.plane_exact.specs.declared.node.TheConstants.{MOST_CHAINS}
use Rattle.engrave_core.specs.Commands.Carve.{job_of}
use Rattle.engrave_core.specs.Drawing.{IsDrawingOf, IsGivenByDrawing, ReadDrawing}
use Rattle.engrave_core.specs.Given.{Refuses}
use Rattle.engrave_core.specs.Refusals.{IsRefusalOfDrawing, IsRefusalOfMilling}
use Rattle.engrave_core.specs.Stored.{Files}
use Rattle.engrave_core.specs.declared.commands.flat.Milling.{Milling}
use Rattle.engrave_core.specs.declared.outcome.InputFault.TheVariants.{TooMany}
use Rattle.engrave_core.specs.declared.outcome.Kind.TheVariants.{Chains, Points}
use Rattle.engrave_core.specs.declared.outcome.Outcome.{Outcome}
use Rattle.engrave_core.specs.declared.outcome.Outcome.TheVariants.{Done}
use Rattle.engrave_core.specs.declared.refusal.Refusal.TheVariants.{Input}

-- the job of the words; its step, which the program doesn't tell, is 1
abbrev pub floor_job : Units → Cone → (limit safe feed : ℕ) → Job
floor_job units bit limit safe feed = job_of units bit 1 limit safe feed

-- by which lines the floor is milled; words that ask for none are no request
abbrev pub lines_of : PocketWord → Way
lines_of word.Y = way.Y
lines_of word.Both = way.Both
lines_of other = way.X

-- the text ends with the report on the floor, a note a line, and the program's end
pub record EndsWithFloor (left : UncutPoints) (text : List ℕ) : Type 0 where
  pub front : List ℕ
  pub is : text ≡ front ++ closing_text (report_lines Floor left)

-- The text, read back in the job's units, is a program of which no moment of any move removes other material, with a flat bit of this radius,
-- than the conical bit might remove: all is in the target, at the surface and below it. And the points of the floor that it prints as left
-- are exactly those that no moment of its moves at the floor's depth sweeps.
pub record IsFloorProgram (job : Job) (radius pitch : ℕ) (loops : List (List GridPoint)) (text : List ℕ) : Type 0 where
  pub moves : List LineMove
  pub read : moves_of job.units text ≡ Ok moves
  pub within : (w : RationalPoint) (depth : Depth) → Any (λ move. Mills radius w depth move.mv) moves → IsInTarget (edges_of loops) job.bit job.limit w depth
  pub left : UncutPoints
  pub report : IsFloorReport loops job.bit job.limit radius moves pitch left
  pub printed : EndsWithFloor left text

-- Done, with the program along the floor's chains in their order, with the report on what it leaves; and it removes nothing but the target
pub record IsMilledFloor (job : Job) (milling : Milling) (pitch : ℕ) (loops : List (List GridPoint)) (outcome : Outcome) (text : List ℕ) : Type 0 where
  pub done : outcome ≡ Done
  pub chains : List (List GridNode)
  pub are : IsFlat loops job.bit job.limit milling.radius milling.over milling.way chains
  pub few : length chains ≤ MOST_CHAINS
  pub order : List ℕ
  pub ordered : IsOrder chains order
  pub left : UncutPoints
  pub report : IsFloorReport loops job.bit job.limit milling.radius (chain_moves job (map (chain_at chains) order)) pitch left
  pub program : text ≡ flat_text job milling.radius (map (chain_at chains) order) left
  pub good : IsFloorProgram job milling.radius pitch loops text

-- the refusal of a floor of too many chains
pub record HasUnmilledFloor (job : Job) (milling : Milling) (loops : List (List GridPoint)) (outcome : Outcome) (text : List ℕ) : Type 0 where
  pub many : HasManyChains (IsFlat loops job.bit job.limit milling.radius milling.over milling.way)
  pub refuses : Refuses (Input (TooMany Chains)) outcome text

-- the refusal of a report of too many points, where the chains aren't too many
pub record HasUnreportedFloor (job : Job) (milling : Milling) (pitch : ℕ) (loops : List (List GridPoint)) (outcome : Outcome) (text : List ℕ) : Type 0 where
  pub chains : List (List GridNode)
  pub are : IsFlat loops job.bit job.limit milling.radius milling.over milling.way chains
  pub few : length chains ≤ MOST_CHAINS
  pub many : HasManyPoints loops pitch
  pub refuses : Refuses (Input (TooMany Points)) outcome text

-- the program, or the refusal of too many chains, or of too many points
abbrev pub IsMilledOrRefused : Job → Milling → (pitch : ℕ) → List (List GridPoint) → Outcome → List ℕ → Type 0
IsMilledOrRefused job milling pitch loops outcome text =
    IsMilledFloor job milling pitch loops outcome text
    ⊎ (HasUnmilledFloor job milling loops outcome text ⊎ HasUnreportedFloor job milling pitch loops outcome text)

-- what is due for the drawing, or the refusal of it
abbrev pub IsDueOfFlat : Files → DrawingWords → Job → Milling → (pitch : ℕ) → Outcome → List ℕ → Type 0
IsDueOfFlat files shape job milling pitch outcome text = IsGivenByDrawing (λ drawing. IsMilledOrRefused job milling pitch drawing.loops) files shape outcome text

-- the refusals of the drawing, of too many chains and of too many points
abbrev pub IsRefusalOfFlat : DrawingWords → Outcome → Type 0
IsRefusalOfFlat shape outcome = IsRefusalOfDrawing shape outcome ⊎ IsRefusalOfMilling outcome

-- the words name a drawing, and the text is a program that removes nothing but the target
pub record StoresMilled (files : Files) (shape : DrawingWords) (job : Job) (radius pitch : ℕ) (text : List ℕ) : Type 0 where
  pub drawing : ReadDrawing
  pub is : IsDrawingOf files shape (Ok drawing)
  pub good : IsFloorProgram job radius pitch drawing.loops text
