-- What is told of the rows of a lattice, row by row.
use Rattle.std.specs.Prelude.{◌≡◌, ◌↔◌, ℕ, ◌*◌, ◌≤◌, List, length, All, Any, ◌<ℤ◌}
use Rattle.plane_exact.specs.Cone.{Cone}
use Rattle.plane_exact.specs.Plane.{GridPoint, rational}
use Rattle.plane_exact.specs.Uncut.{GridRun}
use Rattle.plane_exact.specs.declared.moves.LineMove.{LineMove}
use Rattle.engrave_model.specs.Removal.{Removes}
use Rattle.evenodd_region.specs.RowBits.{IsSetIn, point_of_row}
use Rattle.coverage_report.specs.Lattices.{IsInRows, PointLattice, row_at}
use Rattle.coverage_report.specs.Marked.{IsRowMarked}
use Rattle.coverage_report.specs.Points.{AreAll}
use Rattle.coverage_report.specs.Rows.{ArePushed, PointRow, set_points}
use Rattle.coverage_report.specs.Runs.{AreMaximal, AreRunsOf}

-- no moment of any move removes p
abbrev pub IsSpared : Cone → List LineMove → GridPoint → Type 0
IsSpared cone moves p = ¬ Any (λ move. Removes cone move.mv (rational p)) moves

-- the bits that are 1 are those that were 1 before and whose points no move removes
pub record AreSpared (cone : Cone) (moves : List LineMove) (row : PointRow) (old new : List ℕ) : Type 0 where
  pub bits : (i : ℕ) → IsSetIn new i ↔ (IsSetIn old i × IsSpared cone moves (point_of_row row.y row.x row.pitch i))

-- The maximal runs of the row's points that are marked and spared came to the end of the runs. `drawing` counts the points that
-- are marked, and `left` those of them that are spared.
pub record IsRowTaken (IsMarked : GridPoint → Type 0) (cone : Cone) (moves : List LineMove) (row : PointRow) (old new : List GridRun) (drawing left : ℕ) : Type 0 where
  pub marked : List ℕ
  pub spared : List ℕ
  pub are_marked : IsRowMarked IsMarked row.y row.x row.pitch row.count marked
  pub are_spared : AreSpared cone moves row marked spared
  pub counts_marked : drawing ≡ length (set_points marked row)
  pub counts_spared : left ≡ length (set_points spared row)
  pub pushed : ArePushed row spared old new

-- a point of so many rows of which this is so
pub record IsAmong (lattice : PointLattice) (rows : ℕ) (IsSo : GridPoint → Type 0) (p : GridPoint) : Type 0 where
  pub so : IsSo p
  pub on : IsInRows lattice rows p

-- so many points are those of these rows of which this is so
pub record AreCounted (lattice : PointLattice) (rows : ℕ) (IsSo : GridPoint → Type 0) (points : List GridPoint) (count : ℕ) : Type 0 where
  pub all : AreAll (IsAmong lattice rows IsSo) points
  pub counted : count ≡ length points
  pub few : count ≤ rows * lattice.columns

-- p is marked, and spared
pub record IsLeft (IsMarked : GridPoint → Type 0) (cone : Cone) (moves : List LineMove) (p : GridPoint) : Type 0 where
  pub marked : IsMarked p
  pub spared : IsSpared cone moves p

-- The runs are the maximal runs of the points of so many rows of the lattice, from the lowest on, that are marked and spared.
-- `drawing` counts the points of these rows that are marked, and `left` those of them that are spared.
pub record AreRowsTaken (IsMarked : GridPoint → Type 0) (cone : Cone) (moves : List LineMove) (lattice : PointLattice) (rows : ℕ) (runs : List GridRun) (drawing left : ℕ) : Type 0 where
  pub drawn : List GridPoint
  pub all_drawn : AreCounted lattice rows IsMarked drawn drawing
  pub points : List GridPoint
  pub all_left : AreCounted lattice rows (IsLeft IsMarked cone moves) points left
  pub in_runs : AreRunsOf lattice.pitch runs points
  pub maximal : AreMaximal lattice.pitch runs
  pub lower : All (λ run. run.y <ℤ (row_at lattice rows).y) runs
