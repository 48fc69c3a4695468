-- What a clear move is worth, and what one that isn't.
use Rattle.std.specs.Prelude.{◌≤◌, List}
use Rattle.plane_exact.specs.Cone.{Cone}
use Rattle.plane_exact.specs.Plane.{GridPoint}
use Rattle.plane_exact.specs.Moves.{IsDeep, IsTooDeep, first_deep}
use Rattle.plane_exact.specs.declared.moves.Move.{Move}
use Rattle.plane_exact.specs.declared.point.Seg.{Seg}
use Rattle.swept_move.specs.Clear.{IsClear}
use Rattle.engrave_model.specs.Drawing.{edges_of}
use Rattle.engrave_model.specs.Removal.{IsSafe, Removes, from_tenths}

-- for all closed loops: a clear move is safe
abbrev pub ClearMoveLaw : Type 0
ClearMoveLaw = (loops : List (List GridPoint)) (cone : Cone) (mv : Move) → IsClear (edges_of loops) cone mv → IsSafe (edges_of loops) cone mv

-- and a safe move that isn't too deep is clear, for a bit of some width
abbrev pub SafeMoveLaw : Type 0
SafeMoveLaw = (edges : List Seg) (cone : Cone) (mv : Move) → 1 ≤ cone.sn → ¬ IsTooDeep cone mv → IsSafe edges cone mv → IsClear edges cone mv

-- a move that goes below the surface removes the place of its first end that does
abbrev pub OwnPlaceLaw : Type 0
OwnPlaceLaw = (cone : Cone) (mv : Move) → 1 ≤ cone.sn → IsDeep mv → Removes cone mv (from_tenths (first_deep mv))
