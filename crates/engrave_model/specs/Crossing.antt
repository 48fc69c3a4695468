-- When two edges of a drawing cross: they have a point in common that isn't an end of both, or more than one.
use Rattle.std.specs.Prelude.{◌≡◌, ◌⊎◌, ℕ, ◌<◌, List, Option, None, Some}
use Rattle.std.specs.List.{slice_get}
use Rattle.plane_exact.specs.declared.point.Seg.{Seg}
use Rattle.plane_exact.specs.Meet.{IsMeet}
use Rattle.plane_exact.specs.declared.meet.Meet.TheVariants.{Crosses, Overlaps}

-- the segments cross or overlap
abbrev pub IsCrossing : Seg → Seg → Type 0
IsCrossing s t = IsMeet s t Crosses ⊎ IsMeet s t Overlaps

-- the edges of these numbers cross or overlap, and the first number is the lesser
pub record IsCrossPair (edges : List Seg) (i j : ℕ) : Type 0 where
  pub first : Seg
  pub second : Seg
  pub order : i < j
  pub is_first : slice_get edges i ≡ Some first
  pub is_second : slice_get edges j ≡ Some second
  pub crossing : IsCrossing first second

-- the pair is the first that crosses: no pair with a lesser first number does, nor one with this and a lesser second
pub record IsFirstCrossPair (edges : List Seg) (i j : ℕ) : Type 0 where
  pub pair : IsCrossPair edges i j
  pub rows_clear : (k l : ℕ) → k < i → ¬ IsCrossPair edges k l
  pub row_clear : (l : ℕ) → l < j → ¬ IsCrossPair edges i l

-- the first pair of edges that cross, by the first number and then the second; none where no edges do
abbrev pub IsFirstCrossing : List Seg → Option (ℕ × ℕ) → Type 0
IsFirstCrossing edges None = (i j : ℕ) → ¬ IsCrossPair edges i j
IsFirstCrossing edges (Some pair) = IsFirstCrossPair edges pair.0 pair.1
