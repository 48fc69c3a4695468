-- The spots that a move joins: places and heights of the tip, in tenths of a grid unit.
use Rattle.std.specs.Prelude.{ℤ, pos, negsuc}
use Rattle.integer_algebra.specs.Ranges.{IsUpTo, IsWithin}
use Rattle.plane_exact.specs.declared.moves.TheConstants.{MOST_SPOT_DEPTH}
use Rattle.plane_exact.specs.Plane.{GridPoint}

-- a point and a height over it, in whole numbers of one unit
pub record GridPlace : Type 0 where
  pub at : GridPoint
  pub h : ℤ

-- from -327,670 to 327,670, as a height in tenths is
abbrev pub IsHeight : ℤ → Type 0
IsHeight z = IsUpTo (pos MOST_SPOT_DEPTH) z

-- from -327,680 to 327,670, as a coordinate in tenths is
abbrev pub IsFineCoordinate : ℤ → Type 0
IsFineCoordinate z = IsWithin (negsuc 327679) (pos 327670) z

-- the ranges of the numbers of a spot
pub record IsSpot (x y h : ℤ) : Type 0 where
  pub across : IsFineCoordinate x
  pub up : IsFineCoordinate y
  pub height : IsHeight h
