-- The loops that loose segments become, as a function of the segments; or the first point at which an odd number of them end.
use Rattle.std.specs.Prelude.{ℕ, zero, suc, if◌then◌else◌, Option, Some, None, Result, Ok, Err, List, [], ◌∷◌, length}
use Rattle.std.specs.List.{find}
use Rattle.plane_exact.specs.Plane.{GridPoint}
use Rattle.plane_exact.specs.declared.point.Seg.{Seg}
use Rattle.plane_exact.specs.Same.{same_point}
use Rattle.loop_join.specs.Ends.{has_end, open_point, other_end, without_first}
use Rattle.loop_join.specs.declared.joining.JoinFault.{JoinFault}
use Rattle.loop_join.specs.declared.joining.JoinFault.TheVariants.{Open}

-- the points that a walk passes, and the segments that it leaves unused
pub record Walk : Type 0 where
  pub points : List GridPoint
  pub unused : List Seg

-- the walk ends here
abbrev pub at_rest : List Seg → Walk
at_rest unused = record { points = []; unused = unused }

-- the walk passes p first
abbrev pub led_on : GridPoint → Walk → Walk
led_on p walk = record { points = p ∷ walk.points; unused = walk.unused }

-- The walk from p until it is back at the start: along the first unused segment that ends at p, to its other end. The number is at
-- least that of the steps.
abbrev pub walk_from : ℕ → GridPoint → GridPoint → List Seg → Walk
walk_from zero start p unused = at_rest unused
walk_from (suc steps) start p unused =
    if same_point p start then at_rest unused
    else along (find (has_end p) unused) (λ s. walk_from steps start (other_end p s) (without_first p unused))
  where
    along : Option Seg → (Seg → Walk) → Walk
    along None next = at_rest unused
    along (Some s) next = led_on p (next s)

-- the loops of the segments, where the number is at least that of the loops: each begins with the first unused segment
abbrev pub loops_from : ℕ → List Seg → List (List GridPoint)
loops_from zero segs = []
loops_from (suc loops) [] = []
loops_from (suc loops) (s ∷ unused) =
    let walk = walk_from (length unused) s.a s.b unused in (s.a ∷ walk.points) ∷ loops_from loops walk.unused

-- the loops, or the open point if there is one
abbrev pub unless_open : Option GridPoint → List (List GridPoint) → Result (List (List GridPoint)) JoinFault
unless_open None loops = Ok loops
unless_open (Some p) loops = Err (Open p)

-- the loops that the segments become, or the first point at which an odd number of them end
unfoldable pub join_of : List Seg → Result (List (List GridPoint)) JoinFault
join_of segs = unless_open (open_point segs) (loops_from (length segs) segs)
