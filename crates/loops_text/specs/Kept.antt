-- What a drawing keeps beside its loops: its edges in order, and the loop of each.
use Rattle.std.specs.Prelude.{◌≡◌, ℕ, ◌+◌, List, [], ◌∷◌, ◌++◌, length, replicate}
use Rattle.plane_exact.specs.Plane.{GridPoint}
use Rattle.plane_exact.specs.declared.point.Seg.{Seg}
use Rattle.engrave_model.specs.Drawing.{IsDrawing, edges_of}

-- the number of its loop for each edge, where the loops are counted from the given number
abbrev pub numbers_from : ℕ → List (List GridPoint) → List ℕ
numbers_from number [] = []
numbers_from number (points ∷ loops) = replicate (length points) number ++ numbers_from (number + 1) loops

-- the loops are a drawing, and the edges and the numbers of their loops are those of it, in order
pub record IsKept (loops : List (List GridPoint)) (edges : List Seg) (numbers : List ℕ) : Type 0 where
  pub drawing : IsDrawing loops
  pub edges_in_order : edges ≡ edges_of loops
  pub numbers_in_order : numbers ≡ numbers_from 0 loops
