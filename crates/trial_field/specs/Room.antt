-- The room that a cell has on the grid.
use Rattle.std.specs.Prelude.{pos}
use Rattle.integer_algebra.specs.Ranges.{IsWithin}
use Rattle.plane_exact.specs.Plane.{GridPoint}

-- what is up to 1000 grid units from the middle, across and up, is on the grid
pub record HasRoom (middle : GridPoint) : Type 0 where
  pub across : IsWithin (pos 1000) (pos 31000) middle.x
  pub up : IsWithin (pos 1000) (pos 31000) middle.y
