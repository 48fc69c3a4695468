-- When a move is called clear: not too deep, the tests against each edge passed, and its first end below the surface inside.
--
-- Moves are given in tenths of a grid unit, so the edges of the drawing are taken tenfold.
use Rattle.std.specs.Prelude.{◌⊎◌, pos, ◌*ℤ◌, List, All}
use Rattle.plane_exact.specs.Cone.{Cone}
use Rattle.plane_exact.specs.Moves.{IsDeep, IsTooDeep, first_deep}
use Rattle.plane_exact.specs.Plane.{GridPoint}
use Rattle.plane_exact.specs.declared.moves.Move.{Move}
use Rattle.plane_exact.specs.declared.point.Seg.{Seg}
use Rattle.engrave_model.specs.Inside.{IsInside}
use Rattle.engrave_model.specs.Removal.{from_tenths}
use Rattle.swept_move.specs.Motion.{PassesBetween}

-- a grid point in tenths of a grid unit
abbrev pub tenfold : GridPoint → GridPoint
tenfold u = record { x = pos 10 *ℤ u.x; y = pos 10 *ℤ u.y }

-- an edge in tenths of a grid unit
abbrev pub tenfold_edge : Seg → Seg
tenfold_edge e = record { a = tenfold e.a; b = tenfold e.b }

-- the move passes the tests against the edge
unfoldable pub PassesEdge : Cone → Move → Seg → Type 0
PassesEdge cone mv e = PassesBetween cone mv.from mv.to (tenfold_edge e)

-- not too deep, every edge passed, and the first deep end inside
pub record IsClearDeep (edges : List Seg) (cone : Cone) (mv : Move) : Type 0 where
  pub narrow : ¬ IsTooDeep cone mv
  pub passes : All (PassesEdge cone mv) edges
  pub inside : IsInside edges (from_tenths (first_deep mv))

-- clear: no end is below the surface, or all of the above holds
abbrev pub IsClear : List Seg → Cone → Move → Type 0
IsClear edges cone mv = (¬ IsDeep mv) ⊎ IsClearDeep edges cone mv
