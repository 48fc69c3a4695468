-- How far from its path a move may cut.
use Rattle.std.specs.Prelude.{ℕ, ◌≤◌, pos}
use Rattle.plane_exact.specs.Cone.{Cone}
use Rattle.plane_exact.specs.Moves.{IsDeep}
use Rattle.plane_exact.specs.declared.moves.Move.{Move}
use Rattle.plane_exact.specs.declared.point.Seg.{Seg}
use Rattle.swept_move.specs.Clear.{PassesEdge, tenfold_edge}
use Rattle.swept_move.specs.Motion.{IsBesideBetween, IsNarrowAt}

-- r is the least whole number of tenths that isn't below the bit's radius at either end of the move
pub record IsReach (cone : Cone) (mv : Move) (r : ℕ) : Type 0 where
  pub start : IsNarrowAt cone r mv.from
  pub finish : IsNarrowAt cone r mv.to
  pub least : (s : ℕ) → IsNarrowAt cone s mv.from → IsNarrowAt cone s mv.to → r ≤ s

-- a move passes the tests against an edge from which its path keeps its reach along one axis: so most edges need no product
abbrev pub ReachLaw : Type 0
ReachLaw =
    (cone : Cone) (mv : Move) (r : ℕ) (e : Seg) → 1 ≤ r → IsDeep mv → IsReach cone mv r → IsBesideBetween (pos r) mv.from mv.to (tenfold_edge e)
    → PassesEdge cone mv e
