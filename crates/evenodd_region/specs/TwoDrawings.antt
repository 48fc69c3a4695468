-- Two drawings put together: where a point is inside both as one.
use Rattle.std.specs.Prelude.{◌↔◌, ◌⊎◌, List, ◌++◌}
use Rattle.plane_exact.specs.Plane.{GridPoint, RationalPoint}
use Rattle.engrave_model.specs.Drawing.{edges_of}
use Rattle.engrave_model.specs.Inside.{IsInside, IsOnOutline}

-- exactly one of two facts holds
abbrev pub ExactlyOne : Type 0 → Type 0 → Type 0
ExactlyOne P Q = (P × ¬ Q) ⊎ ((¬ P) × Q)

-- For all closed loops: off both outlines, a point is inside two drawings put together exactly where it is inside exactly one of them.
abbrev pub TwoDrawingsLaw : Type 0
TwoDrawingsLaw = (first second : List (List GridPoint)) (w : RationalPoint) → ¬ IsOnOutline (edges_of first) w → ¬ IsOnOutline (edges_of second) w
    → IsInside (edges_of (first ++ second)) w ↔ ExactlyOne (IsInside (edges_of first) w) (IsInside (edges_of second) w)
