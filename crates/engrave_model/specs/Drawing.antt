-- A drawing: closed loops of grid points, and their edges in order.
use Rattle.std.specs.Prelude.{◌≢◌, ℕ, ◌≤◌, List, [], ◌∷◌, length, All, sum_by, flat_map}
use Rattle.plane_exact.specs.Plane.{GridPoint, IsOnGrid}
use Rattle.plane_exact.specs.declared.point.Seg.{Seg}
use Rattle.engrave_model.specs.declared.TheConstants.{MOST_EDGES}

-- the edges along the points, and at the last point the one that leads back to the first
abbrev pub edges_back_to : GridPoint → List GridPoint → List Seg
edges_back_to first [] = []
edges_back_to first (p ∷ []) = record { a = p; b = first } ∷ []
edges_back_to first (p ∷ q ∷ points) = record { a = p; b = q } ∷ edges_back_to first (q ∷ points)

-- the edges of a closed loop, one from each of its points, the closing edge last
abbrev pub edges_of_loop : List GridPoint → List Seg
edges_of_loop [] = []
edges_of_loop (p ∷ points) = edges_back_to p (p ∷ points)

-- the edges of a drawing, loop by loop: the place in this list, from 0, is the edge's number
abbrev pub edges_of : List (List GridPoint) → List Seg
edges_of loops = flat_map edges_of_loop loops

-- at least two points, of which successive ones differ, the last and the first among them
pub record IsLoop (points : List GridPoint) : Type 0 where
  pub some : 2 ≤ length points
  pub distinct : All (λ e. e.a ≢ e.b) (edges_of_loop points)

-- a drawing has at most 131,072 edges, that is, points
abbrev pub most_edges : ℕ
most_edges = MOST_EDGES

-- the points are on the grid
abbrev pub AreOnGrid : List GridPoint → Type 0
AreOnGrid points = All (λ p. IsOnGrid p.x p.y) points

-- a drawing: loops of points on the grid, not too many
pub record IsDrawing (loops : List (List GridPoint)) : Type 0 where
  pub each : All IsLoop loops
  pub few : sum_by length loops ≤ most_edges
  pub on_grid : All AreOnGrid loops
