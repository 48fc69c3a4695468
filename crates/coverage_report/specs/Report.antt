-- The report on the marked points that a program leaves uncut, and when there is none.
use Rattle.std.specs.Prelude.{◌≡◌, ℕ, ◌<◌, ◌≤◌, List, length}
use Rattle.plane_exact.specs.Cone.{Cone}
use Rattle.plane_exact.specs.Plane.{GridPoint}
use Rattle.plane_exact.specs.Uncut.{UncutPoints}
use Rattle.plane_exact.specs.declared.moves.LineMove.{LineMove}
use Rattle.coverage_report.specs.Cuts.{IsCut}
use Rattle.coverage_report.specs.Points.{AreAll, IsCount, IsDrawn, IsMarkedPoint, IsReportPoint, IsUncutPoint}
use Rattle.coverage_report.specs.Runs.{AreMaximal, AreRunsOf}
use Rattle.coverage_report.specs.declared.cover.TheConstants.{MOST_POINTS}
use Rattle.coverage_report.specs.declared.fault.CoverFault.{CoverFault}
use Rattle.coverage_report.specs.declared.fault.CoverFault.TheVariants.{TooManyPoints, Memory}

-- the points that are reported on are no more than a report may have
pub record AreFew (IsReported : GridPoint → Type 0) : Type 0 where
  pub count : ℕ
  pub is : IsCount IsReported count
  pub few : count ≤ MOST_POINTS

-- they are more
pub record AreMany (IsReported : GridPoint → Type 0) : Type 0 where
  pub count : ℕ
  pub is : IsCount IsReported count
  pub many : MOST_POINTS < count

-- The runs are the maximal runs of the marked points, of those that are reported on, that aren't cut: each of these points in one of
-- them, and no other point. `left` counts these points, and `drawing` all that are marked.
pub record IsReportBy (IsReported IsMarked IsCut : GridPoint → Type 0) (pitch : ℕ) (uncut : UncutPoints) : Type 0 where
  pub few : AreFew IsReported
  pub points : List GridPoint
  pub all : AreAll (IsUncutPoint IsReported IsMarked IsCut) points
  pub runs : AreRunsOf pitch uncut.runs points
  pub maximal : AreMaximal pitch uncut.runs
  pub left : uncut.left ≡ length points
  pub drawing : IsCount (IsMarkedPoint IsReported IsMarked) uncut.drawing

-- the report by what the moves remove: a point is cut where some moment of some move removes it
abbrev pub IsReportOf : (IsReported IsMarked : GridPoint → Type 0) → Cone → List LineMove → (pitch : ℕ) → UncutPoints → Type 0
IsReportOf IsReported IsMarked cone moves pitch uncut = IsReportBy IsReported IsMarked (IsCut cone moves) pitch uncut

-- the report of a drawing has no more points than it may have
abbrev pub HasFewPoints : List (List GridPoint) → (pitch : ℕ) → Type 0
HasFewPoints loops pitch = AreFew (IsReportPoint loops pitch)

-- it has more
abbrev pub HasManyPoints : List (List GridPoint) → (pitch : ℕ) → Type 0
HasManyPoints loops pitch = AreMany (IsReportPoint loops pitch)

-- the report on the points that the drawing holds
abbrev pub IsReportOn : List (List GridPoint) → Cone → List LineMove → (pitch : ℕ) → UncutPoints → Type 0
IsReportOn loops cone moves pitch uncut = IsReportOf (IsReportPoint loops pitch) (IsDrawn loops) cone moves pitch uncut

-- when each fault is answered; out of memory at any time
abbrev pub IsReportFault : (IsReported : GridPoint → Type 0) → CoverFault → Type 0
IsReportFault IsReported TooManyPoints = AreMany IsReported
IsReportFault IsReported Memory = Unit {0}

-- the same of the report of a drawing
abbrev pub IsCoverFault : List (List GridPoint) → (pitch : ℕ) → CoverFault → Type 0
IsCoverFault loops pitch fault = IsReportFault (IsReportPoint loops pitch) fault
