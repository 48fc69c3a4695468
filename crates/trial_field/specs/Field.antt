-- The drawing of a trial: a field of cells, eight in a row, which have an octagon or two squares by turns.
use Rattle.std.specs.Prelude.{ℕ, ◌+◌, ◌*◌, ◌/◌, ◌%◌, ◌==◌, if◌then◌else◌, List, [], ◌∷◌, flat_map, ℤ, pos, neg_ℤ, ◌+ℤ◌}
use Rattle.std.specs.List.{range_with_len}
use Rattle.plane_exact.specs.Plane.{GridPoint}

-- the middle of cell i; the cells are counted from 0, along the rows
abbrev pub middle_of : ℕ → GridPoint
middle_of i = record { x = pos (3000 * (i % 8) + 1500); y = pos (3000 * (i / 8) + 1500) }

-- the greater distance of the corners of cell i from its middle, across or up
abbrev pub far_of : ℕ → ℕ
far_of i = 400 + 10 * (i % 50)

-- the lesser, half of that, rounded down
abbrev pub near_of : ℕ → ℕ
near_of i = far_of i / 2

-- the point that is (x, y) from m
abbrev pub about : GridPoint → (x y : ℤ) → GridPoint
about m x y = record { x = m.x +ℤ x; y = m.y +ℤ y }

-- the octagon about m with the corners (a, b), (b, a) and so on round it, counterclockwise
abbrev pub octagon : GridPoint → (a b : ℤ) → List GridPoint
octagon m a b =
    about m a b ∷ about m b a ∷ about m (neg_ℤ b) a ∷ about m (neg_ℤ a) b
    ∷ about m (neg_ℤ a) (neg_ℤ b) ∷ about m (neg_ℤ b) (neg_ℤ a) ∷ about m b (neg_ℤ a) ∷ about m a (neg_ℤ b) ∷ []

-- the square about m with the corners (a, a) and so on round it, counterclockwise
abbrev pub square : GridPoint → ℤ → List GridPoint
square m a = about m a a ∷ about m (neg_ℤ a) a ∷ about m (neg_ℤ a) (neg_ℤ a) ∷ about m a (neg_ℤ a) ∷ []

-- the loops of cell i: an octagon where i is even, else two squares, one within the other
unfoldable pub cell_loops : ℕ → List (List GridPoint)
cell_loops i =
    if i % 2 == 0
    then octagon (middle_of i) (pos (far_of i)) (pos (near_of i)) ∷ []
    else square (middle_of i) (pos (far_of i)) ∷ square (middle_of i) (pos (near_of i)) ∷ []

-- the loops of so many cells, cell by cell
unfoldable pub trial_loops : ℕ → List (List GridPoint)
trial_loops count = flat_map cell_loops (range_with_len 0 count)
