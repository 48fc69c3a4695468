-- Where in a drawing an edge stands, and what keeps a loop out of it.
use Rattle.std.specs.Prelude.{ℕ, ◌+◌, ◌-◌, if◌then◌else◌, Option, Some, None, List, [], ◌∷◌, length, sum_by, nat_lt}
use Rattle.std.specs.List.{list_any}
use Rattle.plane_exact.specs.Plane.{GridPoint}
use Rattle.plane_exact.specs.Same.{same_point}
use Rattle.engrave_model.specs.Drawing.{edges_of_loop, most_edges}
use Rattle.loops_text.specs.declared.drawing.PushFault.{PushFault}
use Rattle.loops_text.specs.declared.drawing.PushFault.TheVariants.{Short, SamePoint, TooMany}

-- the number, from 0, of the loop that the edge stands in
abbrev pub loop_number : List (List GridPoint) → ℕ → ℕ
loop_number [] e = 0
loop_number (points ∷ loops) e = if nat_lt e (length points) then 0 else loop_number loops (e - length points) + 1

-- the first rule that the drawing would break with this loop at its end
abbrev pub push_fault : List (List GridPoint) → List GridPoint → Option PushFault
push_fault loops points =
    if nat_lt (length points) 2 then Some Short
    else if list_any (λ e. same_point e.a e.b) (edges_of_loop points) then Some SamePoint
    else if nat_lt most_edges (sum_by length loops + length points) then Some TooMany
    else None
