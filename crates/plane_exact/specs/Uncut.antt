-- What a program leaves uncut, as definitions see it.
use Rattle.std.specs.Prelude.{ℕ, List, ℤ}
use Rattle.plane_exact.specs.Plane.{IsCoordinate}

-- points of the row y, from x0 to x1
pub record GridRun : Type 0 where
  pub y : ℤ
  pub x0 : ℤ
  pub x1 : ℤ

-- the ranges of the numbers of a run
pub record IsRun (y x0 x1 : ℤ) : Type 0 where
  pub row : IsCoordinate y
  pub first : IsCoordinate x0
  pub last : IsCoordinate x1

-- the runs of points that are left, how many points the drawing holds, and how many of them are left
pub record UncutPoints : Type 0 where
  pub runs : List GridRun
  pub drawing : ℕ
  pub left : ℕ
