-- Rows of points of a report, and which of their points the bits of words mark.
use Rattle.std.specs.Prelude.{◌≡◌, ℕ, ◌+◌, ◌-◌, ◌*◌, ◌≤◌, ◌==◌, Bool, if◌then◌else◌, List, [], ◌∷◌, ◌++◌, ℤ, pos, ◌+ℤ◌, All}
use Rattle.plane_exact.specs.Plane.{GridPoint, IsCoordinate}
use Rattle.plane_exact.specs.Uncut.{GridRun}
use Rattle.evenodd_region.specs.RowBits.{bit_in}
use Rattle.coverage_report.specs.Runs.{AreMaximal, AreRunsOf, row_points}

-- so many points of the row y, from x on to the right at this pitch
pub record PointRow : Type 0 where
  pub y : ℤ
  pub x : ℤ
  pub pitch : ℕ
  pub count : ℕ

-- the ranges of its numbers: it has a point, and its first and its last are on the grid
pub record IsPointRow (row : PointRow) : Type 0 where
  pub some : 1 ≤ row.count
  pub apart : 1 ≤ row.pitch
  pub up : IsCoordinate row.y
  pub first : IsCoordinate row.x
  pub last : IsCoordinate (row.x +ℤ pos ((row.count - 1) * row.pitch))

-- its points
abbrev pub points_of_row : PointRow → List GridPoint
points_of_row row = row_points row.y row.x row.pitch row.count

-- the bit i of the words is 1
abbrev pub is_set_in : List ℕ → ℕ → Bool
is_set_in words i = bit_in words i == 1

-- the items whose bits are 1, where the bit of the first is the bit i
abbrev pub set_among : {A : Type 0} → List ℕ → ℕ → List A → List A
set_among words i [] = []
set_among words i (item ∷ items) = if is_set_in words i then item ∷ set_among words (i + 1) items else set_among words (i + 1) items

-- the points of the row whose bits are 1
abbrev pub set_points : List ℕ → PointRow → List GridPoint
set_points words row = set_among words 0 (points_of_row row)

-- the maximal runs of the row's points whose bits are 1 came to the end of the runs
pub record ArePushed (row : PointRow) (words : List ℕ) (old new : List GridRun) : Type 0 where
  pub added : List GridRun
  pub pushed : new ≡ old ++ added
  pub are : AreRunsOf row.pitch added (set_points words row)
  pub maximal : AreMaximal row.pitch added
  pub of_row : All (λ run. run.y ≡ row.y) added
