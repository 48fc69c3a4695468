-- When a grid stands for a drawing.
use Rattle.std.specs.Prelude.{ℕ, ◌+◌, ◌<◌, ◌≤◌, List, [], ◌∷◌, length, take, drop, get_or, flat_map, All, IsPermutation, ℤ}
use Rattle.std.specs.List.{zip}
use Rattle.plane_exact.specs.Plane.{GridPoint}
use Rattle.engrave_model.specs.Drawing.{edges_of}
use Rattle.lane_kernels.specs.declared.boxes.Rect.{Rect}
use Rattle.segment_grid.specs.Cells.{IsIn}
use Rattle.segment_grid.specs.Near.{Entry, entries_of}
use Rattle.segment_grid.specs.declared.level.Row.{Row}
use Rattle.segment_grid.specs.declared.level.Level.{Level}
use Rattle.segment_grid.specs.declared.grid.Grid.{Grid}

-- the numbered boxes of a row
abbrev pub entries_in_row : Row → List Entry
entries_in_row row = zip row.numbers.items row.boxes.items

-- of a level
abbrev pub entries_in_level : Level → List Entry
entries_in_level level = flat_map entries_in_row level.rows.items

-- of all levels
abbrev pub entries_in_all : List Level → List Entry
entries_in_all levels = flat_map entries_in_level levels

-- P holds of each element and its number, where they are counted from i
abbrev pub AllFrom : {A : Type 0} → (ℕ → A → Type 0) → ℕ → List A → Type 0
AllFrom P i [] = Unit {0}
AllFrom P i (x ∷ xs) = P i x × AllFrom P (i + 1) xs

-- the box begins in this row and this column, and is no larger than a cell
pub record IsPlaced (x0 y0 : ℤ) (width height row column : ℕ) (b : Rect) : Type 0 where
  pub across : IsIn x0 width column b.x0 b.x1
  pub up : IsIn y0 height row b.y0 b.y1

-- the box begins in this row, in a column that P holds of, and is no larger than a cell
abbrev pub IsAmong : (ℕ → Type 0) → (x0 y0 : ℤ) (width height row : ℕ) → Rect → Type 0
IsAmong P x0 y0 width height row b = (column : ℕ) × P column × IsPlaced x0 y0 width height row column b

-- how many edges of the row stand in the columns before this one
abbrev pub start_of : Row → ℕ → ℕ
start_of row column = get_or row.starts.items column (length row.numbers.items)

-- the edges before the start of a column begin in this row and in a column before it, the others in it or behind it
pub record IsRowOf (x0 y0 : ℤ) (width height r : ℕ) (row : Row) : Type 0 where
  pub before : (c : ℕ) → All (λ entry. IsAmong (λ column. column < c) x0 y0 width height r entry.1) (take (start_of row c) (entries_in_row row))
  pub behind : (c : ℕ) → All (λ entry. IsAmong (λ column. c ≤ column) x0 y0 width height r entry.1) (drop (start_of row c) (entries_in_row row))

-- each edge of the level stands in the cell in which its box begins
abbrev pub IsSorted : Level → Type 0
IsSorted level = AllFrom (IsRowOf level.x0 level.y0 level.width level.height) 0 level.rows.items

-- the grid has each edge of the drawing once, and each in the cell in which its box begins
pub record IsGridOf (grid : Grid) (loops : List (List GridPoint)) : Type 0 where
  pub each_once : IsPermutation (entries_of (edges_of loops)) (entries_in_all grid.levels.items)
  pub placed : All IsSorted grid.levels.items
