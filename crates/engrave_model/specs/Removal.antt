-- What a straight move removes at the surface, and when a G-code program is safe: no moment removes a point outside the drawing.
-- Moves are given in tenths of a grid unit, drawings in whole units.
use Rattle.std.specs.Prelude.{ℤ, pos, neg_ℤ, ◌+ℤ◌, ◌-ℤ◌, ◌*ℤ◌, List, All}
use Rattle.plane_exact.specs.Cone.{Cone}
use Rattle.plane_exact.specs.Plane.{Fraction, GridPoint, RationalPoint, IsBetween}
use Rattle.plane_exact.specs.declared.moves.LineMove.{LineMove}
use Rattle.plane_exact.specs.declared.moves.Move.{Move}
use Rattle.plane_exact.specs.declared.point.Seg.{Seg}
use Rattle.engrave_model.specs.Depth.{IsInDisc}
use Rattle.engrave_model.specs.Inside.{IsInside}

-- the moment k / n of a move, from 0, its start, to 1, its end
abbrev pub Moment : Type 0
Moment = Fraction

-- the value at the moment between one at the start and one at the end, times n
abbrev pub between : Moment → ℤ → ℤ → ℤ
between s first last = (s.n -ℤ s.k) *ℤ first +ℤ s.k *ℤ last

-- where the tip is at the moment, in tenths of a grid unit
abbrev pub place_at : Move → Moment → RationalPoint
place_at mv s = record {
  x = between s mv.from.at.x mv.to.at.x;
  y = between s mv.from.at.y mv.to.at.y;
  over = s.n;
  positive = s.some;
}

-- how deep the tip is below the surface at the moment, in tenths, times n; negative above it
abbrev pub depth_at : Move → Moment → ℤ
depth_at mv s = neg_ℤ (between s mv.from.h mv.to.h)

-- a place in tenths, in grid units
abbrev pub from_tenths : GridPoint → RationalPoint
from_tenths p = record { x = p.x; y = p.y; over = pos 10; positive = record { le = tt } }

-- a point of the drawing in tenths of a grid unit
abbrev pub tenfold : RationalPoint → RationalPoint
tenfold w = record { x = pos 10 *ℤ w.x; y = pos 10 *ℤ w.y; over = w.over; positive = w.positive }

-- at the moment the tip is below the surface, and w is in the open disc that the bit cuts there; all in tenths
abbrev pub IsRemoved : Cone → Move → Moment → RationalPoint → Type 0
IsRemoved cone mv s w = IsInDisc cone (place_at mv s) (depth_at mv s) s.n (tenfold w)

-- some moment removes the point
pub record Removes (cone : Cone) (mv : Move) (w : RationalPoint) : Type 0 where
  pub moment : Moment
  pub removed : IsRemoved cone mv moment w

-- no moment removes a point of the edge
abbrev pub RemovesNone : Cone → Move → Seg → Type 0
RemovesNone cone mv e = (s : Moment) (w : RationalPoint) → IsBetween e.a e.b w → ¬ IsRemoved cone mv s w

-- some moment removes a point of the edge
pub record RemovesSome (cone : Cone) (mv : Move) (e : Seg) : Type 0 where
  pub moment : Moment
  pub point : RationalPoint
  pub on : IsBetween e.a e.b point
  pub removed : IsRemoved cone mv moment point

-- no moment removes a point that isn't inside
abbrev pub IsSafe : List Seg → Cone → Move → Type 0
IsSafe edges cone mv = (s : Moment) (w : RationalPoint) → IsRemoved cone mv s w → IsInside edges w

-- every move is safe
abbrev pub IsSafeCode : List Seg → Cone → List LineMove → Type 0
IsSafeCode edges cone moves = All (λ move. IsSafe edges cone move.mv) moves
