-- Rows of points of the grid of which some are marked.
use Rattle.std.specs.Prelude.{◌↔◌, ℕ, ◌<◌, List, ℤ}
use Rattle.plane_exact.specs.Plane.{GridPoint}
use Rattle.evenodd_region.specs.RowBits.{IsSetIn, point_of_row}

-- the words tell which of the row's points are marked: the bits that are 1 are those of these points
pub record IsRowMarked (IsMarked : GridPoint → Type 0) (y x0 : ℤ) (pitch count : ℕ) (words : List ℕ) : Type 0 where
  pub marked : (i : ℕ) → IsSetIn words i ↔ ((i < count) × IsMarked (point_of_row y x0 pitch i))
