-- Segments between points that are taken to the grid.
use Rattle.std.specs.Prelude.{if◌then◌else◌, Option, Some, List, [], ◌∷◌, option_map}
use Rattle.grid_num.specs.Whole.{both}
use Rattle.plane_exact.specs.Plane.{GridPoint}
use Rattle.plane_exact.specs.Same.{same_point}
use Rattle.plane_exact.specs.declared.point.Seg.{Seg}
use Rattle.arc_flatten.specs.Grid.{grid_of}
use Rattle.arc_flatten.specs.Points.{FinePoint}

-- a first part before others, where there are both
abbrev pub onto : {A : Type 0} → Option A → Option (List A) → Option (List A)
onto first others = option_map (λ pair. pair.0 ∷ pair.1) (both first others)

-- the points taken to the grid, where none leaves it
abbrev pub grid_points : List FinePoint → Option (List GridPoint)
grid_points [] = Some []
grid_points (f ∷ points) = onto (grid_of f) (grid_points points)

-- segments from each point to the next, where they differ
abbrev pub segments_along : List GridPoint → List Seg
segments_along [] = []
segments_along (p ∷ []) = []
segments_along (p ∷ q ∷ points) = if same_point p q then segments_along (q ∷ points) else record { a = p; b = q } ∷ segments_along (q ∷ points)

-- the segments of a list of points, where none leaves the grid
unfoldable pub segments_of : List FinePoint → Option (List Seg)
segments_of points = option_map segments_along (grid_points points)
