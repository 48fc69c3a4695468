-- How many points of the rows of a lattice moves remove, and of a box.
use Rattle.std.specs.Prelude.{◌↔◌, List, [], ◌++◌}
use Rattle.std.proofs.Common.{◌≡◌, ℕ, ◌+◌, ◌*◌, ◌≤◌, length, arith}
use Rattle.plane_exact.specs.Cone.{Cone}
use Rattle.plane_exact.specs.Plane.{GridPoint}
use Rattle.plane_exact.specs.declared.moves.LineMove.{LineMove}
use Rattle.coverage_report.specs.Counts.{AreCounts, IsCountIn}
use Rattle.coverage_report.specs.Cuts.{AreRowCuts, IsCut}
use Rattle.coverage_report.specs.Lattices.{IsInRows, PointLattice, row_at}
use Rattle.coverage_report.specs.Points.{IsCount, IsMarkedPoint}
use Rattle.coverage_report.specs.Rows.{set_points}
use Rattle.coverage_report.specs.Taken.{IsAmong}
use Rattle.coverage_report.specs.declared.cover.TheConstants.{MOST_POINTS}
use Rattle.coverage_report.proofs.Alls.{same_all}
use Rattle.coverage_report.proofs.LatticePoints.{none_counted, row_counted}
use Rattle.coverage_report.proofs.Reports.{none_count, report_count}
use Rattle.coverage_report.proofs.RowPoints.{few_set, set_all}

module _ (cone : Cone) (moves : List LineMove) (lattice : PointLattice) (apart : 1 ≤ lattice.pitch) where
  -- no row yet
  pub none_in_rows : IsCountIn lattice 0 (IsCut cone moves) 0
  none_in_rows = record { points = []; are = none_counted lattice apart (IsCut cone moves) }

  -- one row more
  pub row_in_rows : (k : ℕ) (words : List ℕ) (count more : ℕ) → AreRowCuts cone moves (row_at lattice k) words → more ≡ length (set_points words (row_at lattice k))
      → IsCountIn lattice k (IsCut cone moves) count → IsCountIn lattice (k + 1) (IsCut cone moves) (count + more)
  row_in_rows k words count more cuts counted were =
      let row = row_at lattice k in record {
        points = were.points ++ set_points words row;
        are = row_counted lattice apart (IsCut cone moves) k were.points (set_points words row) count more were.are
            (set_all row apart words (IsCut cone moves) cuts.bits) counted (few_set words row);
      }

  -- all rows are the points that are reported on
  pub cut_counted : (IsReported : GridPoint → Type 0) (cut : ℕ) → ((p : GridPoint) → IsReported p ↔ IsInRows lattice lattice.rows p)
      → (lattice.rows * lattice.columns) ≤ MOST_POINTS → IsCountIn lattice lattice.rows (IsCut cone moves) cut
      → AreCounts IsReported (IsCut cone moves) cut (lattice.rows * lattice.columns)
  cut_counted IsReported cut are few counted = record {
    few = few;
    all = report_count IsReported lattice apart are;
    some = record {
      points = counted.points;
      all = same_all (IsAmong lattice lattice.rows (IsCut cone moves)) (IsMarkedPoint IsReported (IsCut cone moves)) counted.points counted.are.all
          (λ p among. record { reported = (are p).1 among.on; marked = among.so })
          (λ p of. record { so = of.marked; on = (are p).0 of.reported });
      counted = counted.are.counted;
    };
  }

-- no point is reported on
pub none_cut : (cone : Cone) (moves : List LineMove) (IsReported : GridPoint → Type 0) → ((p : GridPoint) → ¬ IsReported p) → AreCounts IsReported (IsCut cone moves) 0 0
none_cut cone moves IsReported none = record {
  few = omega arith;
  all = none_count IsReported none;
  some = none_count (IsMarkedPoint IsReported (IsCut cone moves)) (λ p of. none p of.reported);
}

pub count_same : (P Q : GridPoint → Type 0) (count : ℕ) → ((p : GridPoint) → P p ↔ Q p) → IsCount P count → IsCount Q count
count_same P Q count same is = record { points = is.points; all = same_all P Q is.points is.all (λ p. (same p).0) (λ p. (same p).1); counted = is.counted }

-- what is told of marked points is told of others that are the same
pub counts_same : (IsReported IsReported' IsMarked IsMarked' : GridPoint → Type 0) (marked points : ℕ) → ((p : GridPoint) → IsReported p ↔ IsReported' p)
    → ((p : GridPoint) → IsMarked p ↔ IsMarked' p) → AreCounts IsReported IsMarked marked points → AreCounts IsReported' IsMarked' marked points
counts_same IsReported IsReported' IsMarked IsMarked' marked points same also counts = record {
  few = counts.few;
  all = count_same IsReported IsReported' points same counts.all;
  some = count_same (IsMarkedPoint IsReported IsMarked) (IsMarkedPoint IsReported' IsMarked') marked
      (λ p. (
        (λ of. record { reported = (same p).0 of.reported; marked = (also p).0 of.marked }),
        (λ of. record { reported = (same p).1 of.reported; marked = (also p).1 of.marked }),
      ))
      counts.some;
}
