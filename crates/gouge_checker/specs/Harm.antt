-- What a no means, and a yes: whether some moment of a move removes a point that isn't inside.
use Rattle.std.specs.Prelude.{◌≡◌, ℕ, List, slice_index_or, All, Contains}
use Rattle.plane_exact.specs.Cone.{Cone}
use Rattle.plane_exact.specs.Moves.{IsTooDeep}
use Rattle.plane_exact.specs.Plane.{RationalPoint, IsBetween}
use Rattle.plane_exact.specs.declared.moves.LineMove.{LineMove}
use Rattle.plane_exact.specs.declared.moves.Move.{Move}
use Rattle.plane_exact.specs.declared.point.Seg.{Seg}
use Rattle.engrave_model.specs.Inside.{IsInside}
use Rattle.engrave_model.specs.Removal.{IsRemoved, IsSafeCode, Moment}
use Rattle.gouge_checker.specs.declared.verdict.Verdict.{Verdict}
use Rattle.gouge_checker.specs.declared.verdict.Verdict.TheVariants.{Clear, TooDeep, Gouge, Outside}

-- some moment of the move removes a point that isn't inside, and that is one of these
pub record Harms (edges : List Seg) (cone : Cone) (mv : Move) (IsThese : RationalPoint → Type 0) : Type 0 where
  pub moment : Moment
  pub point : RationalPoint
  pub removed : IsRemoved cone mv moment point
  pub outside : ¬ IsInside edges point
  pub these : IsThese point

-- some move of this line harms so
pub record IsHarmful (edges : List Seg) (cone : Cone) (moves : List LineMove) (line : ℕ) (IsThese : RationalPoint → Type 0) : Type 0 where
  pub move : LineMove
  pub there : Contains moves move
  pub same : line ≡ move.line
  pub harm : Harms edges cone move.mv IsThese

-- w is a point of the edge with this number
abbrev pub IsOnEdge : List Seg → ℕ → RationalPoint → Type 0
IsOnEdge edges e w = (d : Seg) → IsBetween (slice_index_or edges e d).a (slice_index_or edges e d).b w

-- w may be any point
abbrev pub IsAnyPoint : RationalPoint → Type 0
IsAnyPoint w = Unit {0}

-- where the verdict is a gouge or outside, a move of its line removes a point that isn't inside; for a gouge, a point of its edge
abbrev pub IsTrueNo : List Seg → Cone → List LineMove → Verdict → Type 0
IsTrueNo edges cone moves Clear = Unit {0}
IsTrueNo edges cone moves (TooDeep line) = Unit {0}
IsTrueNo edges cone moves (Gouge line edge) = IsHarmful edges cone moves line (IsOnEdge edges edge)
IsTrueNo edges cone moves (Outside line) = IsHarmful edges cone moves line IsAnyPoint

-- no move is too deep, and no moment of any removes a point that isn't inside
pub record IsFit (edges : List Seg) (cone : Cone) (moves : List LineMove) : Type 0 where
  pub narrow : All (λ move. ¬ IsTooDeep cone move.mv) moves
  pub safe : IsSafeCode edges cone moves
