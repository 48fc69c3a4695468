-- Straight paths between rational points, and what the even-odd rule says along one that meets no edge.
use Rattle.std.specs.Prelude.{◌≡◌, ◌↔◌, Bool, not, ◌&&◌, if◌then◌else◌, List, ◌-ℤ◌, ◌*ℤ◌, int_lt}
use Rattle.plane_exact.specs.Plane.{GridPoint, RationalPoint, IsBetween, IsOnPath}
use Rattle.plane_exact.specs.declared.point.Seg.{Seg}
use Rattle.engrave_model.specs.Drawing.{edges_of}
use Rattle.engrave_model.specs.Inside.{IsOnOutline, IsInside, is_at_or_below, is_counted}

-- no rational point of the path is on an edge
abbrev pub IsPathFree : List Seg → RationalPoint → RationalPoint → Type 0
IsPathFree edges v w = (u : RationalPoint) → IsOnPath v w u → ¬ IsOnOutline edges u

-- For all closed loops: along a straight path that meets no edge, all points are inside or none is.
abbrev pub ParityLaw : Type 0
ParityLaw = (loops : List (List GridPoint)) (v w : RationalPoint) → IsPathFree (edges_of loops) v w
    → IsInside (edges_of loops) v ↔ IsInside (edges_of loops) w

-- exactly one of two holds
abbrev pub exactly_one : Bool → Bool → Bool
exactly_one first second = if first then not second else second

-- p is not above the row of exactly one of v and w
abbrev pub is_in_rows : RationalPoint → RationalPoint → GridPoint → Bool
is_in_rows v w p = exactly_one (is_at_or_below p v) (is_at_or_below p w)

-- p is strictly to the right of the line through v and w, for a p in their rows:
-- p.x > v.x + (p.y - v.y) (w.x - v.x) / (w.y - v.y), both sides multiplied by the denominators.
abbrev pub is_right_of_line : RationalPoint → RationalPoint → GridPoint → Bool
is_right_of_line v w p =
    let along = (v.over *ℤ p.y -ℤ v.y) *ℤ (v.over *ℤ w.x -ℤ w.over *ℤ v.x) in
    let across = (v.over *ℤ p.x -ℤ v.x) *ℤ (v.over *ℤ w.y -ℤ w.over *ℤ v.y) in
    if int_lt (w.over *ℤ v.y) (v.over *ℤ w.y) then int_lt along across else int_lt across along

-- the path from v to w passes the row of p strictly to the left of p
abbrev pub is_right_of_path : RationalPoint → RationalPoint → GridPoint → Bool
is_right_of_path v w p = is_in_rows v w p && is_right_of_line v w p

-- no rational point of the path is on the edge
abbrev pub IsPathOff : Seg → RationalPoint → RationalPoint → Type 0
IsPathOff e v w = (u : RationalPoint) → IsOnPath v w u → ¬ IsBetween e.a e.b u

-- For an edge that the path doesn't meet: the edge is counted at exactly one of v and w exactly where exactly one of its
-- ends is to the right of the path.
abbrev pub EdgeParityLaw : Type 0
EdgeParityLaw = (e : Seg) (v w : RationalPoint) → IsPathOff e v w
    → exactly_one (is_counted v e) (is_counted w e) ≡ exactly_one (is_right_of_path v w e.a) (is_right_of_path v w e.b)
