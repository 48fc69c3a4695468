-- The report of what is told of all rows of a lattice, and of nothing.
use Rattle.std.specs.Prelude.{◌↔◌, List, []}
use Rattle.std.proofs.Common.{◌≡◌, ℕ, ◌*◌, ◌<◌, ◌≤◌, refl, subst, arith}
use Rattle.plane_exact.specs.Cone.{Cone}
use Rattle.plane_exact.specs.Plane.{GridPoint}
use Rattle.plane_exact.specs.Uncut.{GridRun, UncutPoints}
use Rattle.plane_exact.specs.declared.moves.LineMove.{LineMove}
use Rattle.coverage_report.specs.Cuts.{IsCut}
use Rattle.coverage_report.specs.Lattices.{IsInRows, PointLattice}
use Rattle.coverage_report.specs.Points.{IsCount, IsMarkedPoint, IsUncutPoint}
use Rattle.coverage_report.specs.Report.{AreFew, AreMany, IsReportBy, IsReportOf}
use Rattle.coverage_report.specs.Runs.{AreMaximal, AreRunsOf}
use Rattle.coverage_report.specs.Taken.{AreRowsTaken, IsAmong, IsLeft}
use Rattle.coverage_report.specs.declared.cover.TheConstants.{MOST_POINTS}
use Rattle.coverage_report.proofs.Alls.{none_all, same_all}
use Rattle.coverage_report.proofs.LatticePoints.{lattice_count}

module _ (IsReported : GridPoint → Type 0) where
  pub none_count : ((p : GridPoint) → ¬ IsReported p) → IsCount IsReported 0
  none_count none = record { points = []; all = none_all IsReported none; counted = refl }

  -- no point of the report, and so no uncut one
  pub nothing_reported : (IsMarked : GridPoint → Type 0) (cone : Cone) (moves : List LineMove) (pitch : ℕ) → ((p : GridPoint) → ¬ IsReported p)
      → IsReportOf IsReported IsMarked cone moves pitch (record { runs = []; drawing = 0; left = 0 })
  nothing_reported IsMarked cone moves pitch none = record {
    few = record { count = 0; is = none_count none; few = omega arith };
    points = [];
    all = none_all (IsUncutPoint IsReported IsMarked (IsCut cone moves)) (λ p of. none p of.marked.reported);
    runs = refl;
    maximal = tt;
    left = refl;
    drawing = record { points = []; all = none_all (IsMarkedPoint IsReported IsMarked) (λ p of. none p of.reported); counted = refl };
  }

  module _ (lattice : PointLattice) (apart : 1 ≤ lattice.pitch) (are : (p : GridPoint) → IsReported p ↔ IsInRows lattice lattice.rows p) where
    pub report_count : IsCount IsReported (lattice.rows * lattice.columns)
    report_count =
        let all = lattice_count lattice apart lattice.rows in record {
          points = all.points;
          all = same_all (IsInRows lattice lattice.rows) IsReported all.points all.all (λ p on. (are p).1 on) (λ p of. (are p).0 of);
          counted = all.counted;
        }

    pub many_points : MOST_POINTS < (lattice.rows * lattice.columns) → AreMany IsReported
    many_points many = record { count = lattice.rows * lattice.columns; is = report_count; many = many }

    pub few_points : (lattice.rows * lattice.columns) ≤ MOST_POINTS → AreFew IsReported
    few_points few = record { count = lattice.rows * lattice.columns; is = report_count; few = few }

    pub all_reported : (IsMarked : GridPoint → Type 0) (cone : Cone) (moves : List LineMove) (pitch : ℕ) (runs : List GridRun) (drawing left : ℕ) → lattice.pitch ≡ pitch
        → (lattice.rows * lattice.columns) ≤ MOST_POINTS → AreRowsTaken IsMarked cone moves lattice lattice.rows runs drawing left
        → IsReportOf IsReported IsMarked cone moves pitch (record { runs = runs; drawing = drawing; left = left })
    all_reported IsMarked cone moves pitch runs drawing left same few taken = record {
      few = few_points few;
      points = taken.points;
      all = same_all (IsAmong lattice lattice.rows (IsLeft IsMarked cone moves)) (IsUncutPoint IsReported IsMarked (IsCut cone moves)) taken.points taken.all_left.all
          (λ p among. record { marked = record { reported = (are p).1 among.on; marked = among.so.marked }; spared = among.so.spared })
          (λ p of. record { so = record { marked = of.marked.marked; spared = of.spared }; on = (are p).0 of.marked.reported });
      runs = subst (λ pitch. AreRunsOf pitch runs taken.points) same taken.in_runs;
      maximal = subst (λ pitch. AreMaximal pitch runs) same taken.maximal;
      left = taken.all_left.counted;
      drawing = record {
        points = taken.drawn;
        all = same_all (IsAmong lattice lattice.rows IsMarked) (IsMarkedPoint IsReported IsMarked) taken.drawn taken.all_drawn.all
            (λ p among. record { reported = (are p).1 among.on; marked = among.so })
            (λ p of. record { so = of.marked; on = (are p).0 of.reported });
        counted = taken.all_drawn.counted;
      };
    }

-- a report by what cuts a point is one by all else that cuts the same of the marked points
pub same_report : (IsReported IsMarked IsCut IsCut' : GridPoint → Type 0) (pitch : ℕ) (uncut : UncutPoints)
    → ((p : GridPoint) → IsReported p → IsMarked p → IsCut p ↔ IsCut' p) → IsReportBy IsReported IsMarked IsCut pitch uncut → IsReportBy IsReported IsMarked IsCut' pitch uncut
same_report IsReported IsMarked IsCut IsCut' pitch uncut same report = record {
  few = report.few;
  points = report.points;
  all = same_all (IsUncutPoint IsReported IsMarked IsCut) (IsUncutPoint IsReported IsMarked IsCut') report.points report.all
      (λ p of. record { marked = of.marked; spared = λ cut. of.spared ((same p of.marked.reported of.marked.marked).1 cut) })
      (λ p of. record { marked = of.marked; spared = λ cut. of.spared ((same p of.marked.reported of.marked.marked).0 cut) });
  runs = report.runs;
  maximal = report.maximal;
  left = report.left;
  drawing = report.drawing;
}
