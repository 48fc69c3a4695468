-- How many points are marked of those that are reported on.
use Rattle.std.specs.Prelude.{ℕ, ◌≤◌, List}
use Rattle.plane_exact.specs.Plane.{GridPoint}
use Rattle.coverage_report.specs.Lattices.{PointLattice}
use Rattle.coverage_report.specs.Points.{IsCount, IsMarkedPoint}
use Rattle.coverage_report.specs.Taken.{AreCounted}
use Rattle.coverage_report.specs.declared.cover.TheConstants.{MOST_POINTS}

-- so many points are reported on, no more than a report may have, and so many of them are marked
pub record AreCounts (IsReported IsMarked : GridPoint → Type 0) (marked points : ℕ) : Type 0 where
  pub few : points ≤ MOST_POINTS
  pub all : IsCount IsReported points
  pub some : IsCount (IsMarkedPoint IsReported IsMarked) marked

-- so many points of these rows are those of which this is so
pub record IsCountIn (lattice : PointLattice) (rows : ℕ) (IsSo : GridPoint → Type 0) (count : ℕ) : Type 0 where
  pub points : List GridPoint
  pub are : AreCounted lattice rows IsSo points count
