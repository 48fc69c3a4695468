-- Which points a drawing holds, by the even-odd rule.
use Rattle.std.specs.Prelude.{◌≡◌, ◌%◌, Bool, not, ◌&&◌, if◌then◌else◌, List, ◌-ℤ◌, ◌*ℤ◌, int_lt, int_le, Any, count_by}
use Rattle.plane_exact.specs.Plane.{GridPoint, RationalPoint, IsBetween}
use Rattle.plane_exact.specs.declared.point.Seg.{Seg}

-- w is a point of some edge
abbrev pub IsOnOutline : List Seg → RationalPoint → Type 0
IsOnOutline edges w = Any (λ e. IsBetween e.a e.b w) edges

-- p is not above the row of w
abbrev pub is_at_or_below : GridPoint → RationalPoint → Bool
is_at_or_below p w = int_le (w.over *ℤ p.y) w.y

-- exactly one end of the edge is not above the row of w
abbrev pub passes_row : Seg → RationalPoint → Bool
passes_row e w = if is_at_or_below e.a w then not (is_at_or_below e.b w) else is_at_or_below e.b w

-- The edge's crossing with the row of w is strictly to the right of w, for an edge that passes the row:
-- a.x + (w.y - a.y) (b.x - a.x) / (b.y - a.y) > w.x, both sides multiplied by the denominators.
abbrev pub crosses_right_of : Seg → RationalPoint → Bool
crosses_right_of e w =
    let along = (w.y -ℤ w.over *ℤ e.a.y) *ℤ (e.b.x -ℤ e.a.x) in
    let across = (w.x -ℤ w.over *ℤ e.a.x) *ℤ (e.b.y -ℤ e.a.y) in
    if int_lt e.a.y e.b.y then int_lt across along else int_lt along across

-- the edge passes the row of w, strictly to the right of w
abbrev pub is_counted : RationalPoint → Seg → Bool
is_counted w e = passes_row e w && crosses_right_of e w

-- w is on no edge, and the number of edges that pass its row to the right of it is odd
pub record IsInside (edges : List Seg) (w : RationalPoint) : Type 0 where
  pub off_outline : ¬ IsOnOutline edges w
  pub odd : count_by (is_counted w) edges % 2 ≡ 1
