-- The first edge that crosses a given one.
use Rattle.std.specs.Prelude.{ℕ, ◌<◌, List, Option, None, Some}
use Rattle.plane_exact.specs.declared.point.Seg.{Seg}
use Rattle.engrave_model.specs.Crossing.{IsCrossPair}

-- the edge j behind the edge i crosses it, and no edge between does
pub record IsFirstCrossedAt (edges : List Seg) (i j : ℕ) : Type 0 where
  pub pair : IsCrossPair edges i j
  pub before : (l : ℕ) → l < j → ¬ IsCrossPair edges i l

-- by whether there is one
abbrev pub IsFirstCrossed : List Seg → ℕ → Option ℕ → Type 0
IsFirstCrossed edges i None = (j : ℕ) → ¬ IsCrossPair edges i j
IsFirstCrossed edges i (Some j) = IsFirstCrossedAt edges i j
