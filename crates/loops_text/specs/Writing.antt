-- The text of a drawing in loops form.
use Rattle.std.specs.Prelude.{ℕ, List, [], ◌∷◌, ◌++◌, flat_map}
use Rattle.grid_num.specs.Written.{decimal_text}
use Rattle.plane_exact.specs.Plane.{GridPoint}

-- x,y: two whole numbers with a comma (44) between them
abbrev pub written_point : GridPoint → List ℕ
written_point p = decimal_text 0 p.x ++ 44 ∷ decimal_text 0 p.y

-- more points on their line, each with a space (32) before it
abbrev pub more_points : List GridPoint → List ℕ
more_points points = flat_map (λ p. 32 ∷ written_point p) points

-- the points of a loop on a line, with one space between them and a line feed (10) behind
abbrev pub written_loop : List GridPoint → List ℕ
written_loop [] = 10 ∷ []
written_loop (p ∷ points) = written_point p ++ more_points points ++ 10 ∷ []

-- a line for each loop
unfoldable pub written_loops : List (List GridPoint) → List ℕ
written_loops loops = flat_map written_loop loops
