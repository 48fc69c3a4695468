-- A point of a row that a move removes, where one is: it is over the start of the move, over its finish, or where the path crosses
-- the row.
use Rattle.std.specs.Prelude.{◌≡◌, ℤ, pos, neg_ℤ, ◌+ℤ◌, ◌-ℤ◌, ◌*ℤ◌, ◌≤ℤ◌, ◌<ℤ◌}
use Rattle.plane_exact.specs.Cone.{Cone}
use Rattle.plane_exact.specs.Heights.{GridPlace}
use Rattle.plane_exact.specs.Plane.{GridPoint, RationalPoint}
use Rattle.plane_exact.specs.declared.moves.Move.{Move}
use Rattle.engrave_model.specs.Removal.{Removes}
use Rattle.swept_move.specs.Row.{RemovesAt}

-- from the point it is the way (x, y) to the place, in tenths of a grid unit, and the place is so deep
pub record IsSight (p : GridPoint) (f : GridPlace) (x y depth : ℤ) : Type 0 where
  pub across : x ≡ f.at.x -ℤ pos 10 *ℤ p.x
  pub up : y ≡ f.at.y -ℤ pos 10 *ℤ p.y
  pub deep : depth ≡ neg_ℤ f.h

-- an end of the move that lies so far above the row, which may be below 0, is so deep that the bit's disc over it meets the row
pub record MeetsRow (cone : Cone) (up depth : ℤ) : Type 0 where
  pub above : (pos cone.sd *ℤ up) <ℤ (pos cone.sn *ℤ depth)
  pub below : (pos cone.sd *ℤ neg_ℤ up) <ℤ (pos cone.sn *ℤ depth)

-- the way between two ends, the one below the row and the other above it, crosses it where the tip is below the surface
pub record IsCrossing (up depth up' depth' : ℤ) : Type 0 where
  pub under : up <ℤ pos 0
  pub over : pos 0 <ℤ up'
  pub deep : (up *ℤ depth') <ℤ (up' *ℤ depth)

-- the move removes no point of the row
abbrev pub IsRowMissed : Cone → Move → (y : ℤ) → Type 0
IsRowMissed cone mv y = (x : ℤ) → ¬ RemovesAt cone mv y x

-- the move removes a point of the row of p, at least i and less than i + 1 to the right of p
pub record IsMiddle (cone : Cone) (mv : Move) (p : GridPoint) (i : ℤ) : Type 0 where
  pub point : RationalPoint
  pub low : (point.over *ℤ (p.x +ℤ i)) ≤ℤ point.x
  pub high : point.x <ℤ (point.over *ℤ (p.x +ℤ i +ℤ pos 1))
  pub up : point.y ≡ point.over *ℤ p.y
  pub removed : Removes cone mv point
