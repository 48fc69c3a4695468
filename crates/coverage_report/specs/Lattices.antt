-- The points of a report as a lattice: rows upwards, at the pitch of a report, each with the same columns.
use Rattle.std.specs.Prelude.{◌≡◌, ◌↔◌, ℕ, ◌-◌, ◌*◌, ◌<◌, ◌≤◌, List, ℤ, pos, ◌+ℤ◌}
use Rattle.plane_exact.specs.Plane.{GridPoint, IsCoordinate}
use Rattle.evenodd_region.specs.Bounds.{IsInBox}
use Rattle.evenodd_region.specs.RowBits.{point_of_row}
use Rattle.depth_rule.specs.Ticks.{IsMultiple}
use Rattle.coverage_report.specs.Points.{IsReportPoint}
use Rattle.coverage_report.specs.Rows.{PointRow}

-- rows of points at this pitch, to the right and upwards from (x, y) on
pub record PointLattice : Type 0 where
  pub y : ℤ
  pub x : ℤ
  pub pitch : ℕ
  pub columns : ℕ
  pub rows : ℕ

-- the ranges of its numbers: it has a point, and its first and its last are on the grid
pub record IsPointLattice (lattice : PointLattice) : Type 0 where
  pub some_columns : 1 ≤ lattice.columns
  pub some_rows : 1 ≤ lattice.rows
  pub apart : 1 ≤ lattice.pitch
  pub left : IsCoordinate lattice.x
  pub right : IsCoordinate (lattice.x +ℤ pos ((lattice.columns - 1) * lattice.pitch))
  pub bottom : IsCoordinate lattice.y
  pub top : IsCoordinate (lattice.y +ℤ pos ((lattice.rows - 1) * lattice.pitch))

-- its row of this number, from 0, the lowest
abbrev pub row_at : PointLattice → ℕ → PointRow
row_at lattice k = record { y = lattice.y +ℤ pos (k * lattice.pitch); x = lattice.x; pitch = lattice.pitch; count = lattice.columns }

-- p is a point of the row
pub record IsInRow (row : PointRow) (p : GridPoint) : Type 0 where
  pub number : ℕ
  pub below : number < row.count
  pub is : p ≡ point_of_row row.y row.x row.pitch number

-- p is a point of one of so many rows of the lattice, from the lowest on
pub record IsInRows (lattice : PointLattice) (rows : ℕ) (p : GridPoint) : Type 0 where
  pub number : ℕ
  pub below : number < rows
  pub on : IsInRow (row_at lattice number) p

-- p is in the box, and both its coordinates are multiples of the pitch
pub record IsBoxPoint (low high : GridPoint) (pitch : ℕ) (p : GridPoint) : Type 0 where
  pub across : IsMultiple pitch p.x
  pub up : IsMultiple pitch p.y
  pub within : IsInBox low high p

-- the points of the lattice are those of the box whose coordinates are multiples of the pitch
pub record IsLatticeIn (low high : GridPoint) (pitch : ℕ) (lattice : PointLattice) : Type 0 where
  pub same : lattice.pitch ≡ pitch
  pub points : (p : GridPoint) → IsBoxPoint low high pitch p ↔ IsInRows lattice lattice.rows p

-- the points of the lattice are those of the report
pub record IsLatticeOf (loops : List (List GridPoint)) (pitch : ℕ) (lattice : PointLattice) : Type 0 where
  pub same : lattice.pitch ≡ pitch
  pub points : (p : GridPoint) → IsReportPoint loops pitch p ↔ IsInRows lattice lattice.rows p
