-- The squares of the grid in which kept points are looked up: no two of them lie in one.
use Rattle.std.specs.Prelude.{ℕ, ◌+◌, ◌*◌, ◌/◌, ℤ, negsuc, ◌-ℤ◌, unsigned_abs}
use Rattle.plane_exact.specs.Plane.{GridPoint}

-- the number, from 1, of the strip of width t + 1 that the coordinate lies in, of those from the least coordinate on
abbrev pub strip_of : ℕ → ℤ → ℕ
strip_of t z = unsigned_abs (z -ℤ negsuc 32767) / (t + 1) + 1

-- the number of the square in the column and the row, column by column: there are at most 65536 rows, and one beside them on
-- each side
abbrev pub cell_number : ℕ → ℕ → ℕ
cell_number column row = column * 65538 + row

-- the number of the square that a point lies in
abbrev pub cell_of : ℕ → GridPoint → ℕ
cell_of t p = cell_number (strip_of t p.x) (strip_of t p.y)
