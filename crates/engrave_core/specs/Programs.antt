-- The G-code program that carves a drawing: of its plan, with the report on what it leaves uncut. And when there is none.
use Rattle.std.specs.Prelude.{◌≡◌, ◌≢◌, ◌⊎◌, ◌++◌, ℕ, List, Ok}
use Rattle.carve_plan.specs.Fault.{IsPlanFault}
use Rattle.carve_plan.specs.Law.{CarvesWell}
use Rattle.carve_plan.specs.Plan.{AskedPocket, IsPlan}
use Rattle.carve_plan.specs.declared.fault.PlanFault.{PlanFault}
use Rattle.carve_plan.specs.declared.fault.PlanFault.TheVariants.{Memory}
use Rattle.coverage_report.specs.Report.{HasManyPoints, IsReportOn}
use Rattle.gcode_text.specs.Moves.{moves_of}
use Rattle.gcode_text.specs.Path.{chain_moves, closing_text, program_text}
use Rattle.gcode_text.specs.Report.{report_lines}
use Rattle.gcode_text.specs.declared.job.Job.{Job}
use Rattle.gcode_text.specs.declared.report.Subject.TheVariants.{Uncut}
use Rattle.plane_exact.specs.Nodes.{GridNode}
use Rattle.plane_exact.specs.Plane.{GridPoint}
use Rattle.plane_exact.specs.Uncut.{UncutPoints}
use Rattle.plane_exact.specs.declared.moves.LineMove.{LineMove}
use Rattle.engrave_core.specs.Given.{Refuses}
use Rattle.engrave_core.specs.Refusals.{IsRefusalOfPlan, IsRefusalOfReport, plan_refusal}
use Rattle.engrave_core.specs.declared.outcome.InputFault.TheVariants.{TooMany}
use Rattle.engrave_core.specs.declared.outcome.Kind.TheVariants.{Points}
use Rattle.engrave_core.specs.declared.outcome.Outcome.{Outcome}
use Rattle.engrave_core.specs.declared.refusal.Refusal.TheVariants.{Input}

-- the text ends with the report, a note a line, and the program's end
pub record EndsWith (uncut : UncutPoints) (text : List ℕ) : Type 0 where
  pub front : List ℕ
  pub is : text ≡ front ++ closing_text (report_lines Uncut uncut)

-- The text, read back in the job's units, is a program that is called clear for the drawing; no moment of it removes a point outside;
-- at each contact some move goes as deep as fits at the centre of its greatest disc; and the points that it prints as uncut are exactly
-- those of the report inside the drawing that no moment of these moves removes.
pub record IsGoodProgram (job : Job) (pitch : ℕ) (loops : List (List GridPoint)) (text : List ℕ) : Type 0 where
  pub moves : List LineMove
  pub read : moves_of job.units text ≡ Ok moves
  pub carves : CarvesWell loops job.bit job.limit job.step moves
  pub uncut : UncutPoints
  pub report : IsReportOn loops job.bit moves pitch uncut
  pub printed : EndsWith uncut text

-- the text is the program of the drawing's plan, with the report on its moves; and it is a good one
pub record IsProgramOf (job : Job) (pitch : ℕ) (asked : AskedPocket) (loops : List (List GridPoint)) (plan : List (List GridNode)) (uncut : UncutPoints) (text : List ℕ) : Type 0 where
  pub is : IsPlan loops job.bit job.limit job.step asked plan
  pub report : IsReportOn loops job.bit (chain_moves job plan) pitch uncut
  pub program : text ≡ program_text job plan uncut
  pub good : IsGoodProgram job pitch loops text

-- the refusal of a drawing that has no plan, which isn't running out of memory
pub record IsRefusedPlan (job : Job) (asked : AskedPocket) (loops : List (List GridPoint)) (outcome : Outcome) (text : List ℕ) : Type 0 where
  pub fault : PlanFault
  pub told : fault ≢ Memory
  pub is : IsPlanFault loops job.bit job.limit job.step asked fault
  pub refuses : Refuses (plan_refusal fault) outcome text

-- the refusal of a report of too many points, where there is a plan
pub record IsUnreported (job : Job) (pitch : ℕ) (asked : AskedPocket) (loops : List (List GridPoint)) (outcome : Outcome) (text : List ℕ) : Type 0 where
  pub plan : List (List GridNode)
  pub is : IsPlan loops job.bit job.limit job.step asked plan
  pub many : HasManyPoints loops pitch
  pub refuses : Refuses (Input (TooMany Points)) outcome text

-- the refusal of a drawing that has no program: of its plan, or of the report
abbrev pub IsUnprogrammed : Job → (pitch : ℕ) → AskedPocket → List (List GridPoint) → Outcome → List ℕ → Type 0
IsUnprogrammed job pitch asked loops outcome text = IsRefusedPlan job asked loops outcome text ⊎ IsUnreported job pitch asked loops outcome text

-- these refusals
abbrev pub IsRefusalOfProgram : Outcome → Type 0
IsRefusalOfProgram outcome = IsRefusalOfPlan outcome ⊎ IsRefusalOfReport outcome
