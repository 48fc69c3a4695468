-- Moves that spare the edges of a drawing are safe.
use Rattle.std.specs.Prelude.{List, All}
use Rattle.plane_exact.specs.Cone.{Cone}
use Rattle.plane_exact.specs.Plane.{GridPoint}
use Rattle.plane_exact.specs.declared.moves.Move.{Move}
use Rattle.plane_exact.specs.declared.point.Seg.{Seg}
use Rattle.plane_exact.specs.Moves.{IsDeep, first_deep}
use Rattle.engrave_model.specs.Drawing.{edges_of}
use Rattle.engrave_model.specs.Inside.{IsInside}
use Rattle.engrave_model.specs.Removal.{RemovesNone, IsSafe, from_tenths}

-- For all closed loops: a move that removes no point of any edge, and whose first end below the surface is inside, is safe.
abbrev pub SparingMoveLaw : Type 0
SparingMoveLaw = (loops : List (List GridPoint)) (cone : Cone) (mv : Move) → IsDeep mv → All (RemovesNone cone mv) (edges_of loops)
    → IsInside (edges_of loops) (from_tenths (first_deep mv)) → IsSafe (edges_of loops) cone mv

-- a move at or above the surface is safe
abbrev pub SurfaceMoveLaw : Type 0
SurfaceMoveLaw = (edges : List Seg) (cone : Cone) (mv : Move) → ¬ IsDeep mv → IsSafe edges cone mv
