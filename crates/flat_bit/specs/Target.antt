-- What a flat bit may remove below a drawing, and what it removes.
use Rattle.std.specs.Prelude.{ℕ, ◌*◌, List, ℤ, pos, ◌*ℤ◌, ◌-ℤ◌, ◌<ℤ◌, ◌≤ℤ◌}
use Rattle.plane_exact.specs.Cone.{Cone}
use Rattle.plane_exact.specs.Distance.{IsCloser}
use Rattle.plane_exact.specs.Plane.{RationalPoint}
use Rattle.plane_exact.specs.declared.moves.Move.{Move}
use Rattle.plane_exact.specs.declared.point.Seg.{Seg}
use Rattle.engrave_model.specs.Depth.{IsInDisc}
use Rattle.engrave_model.specs.Inside.{IsInside, IsOnOutline}
use Rattle.engrave_model.specs.Removal.{Moment, depth_at, place_at, tenfold}

-- the depth t / over below the surface, in grid units
pub record Depth : Type 0 where
  pub t : ℤ
  pub over : ℤ
  pub least : pos 0 ≤ℤ t
  pub positive : pos 1 ≤ℤ over

-- The material below the point w at this depth is in the target: the conical bit might remove it, from some place inside at some depth that
-- the limit and the bit allow, without its disc meeting an edge. That far up from its tip it is wide enough to reach w.
pub record IsInTarget (edges : List Seg) (cone : Cone) (limit : ℕ) (w : RationalPoint) (depth : Depth) : Type 0 where
  pub place : RationalPoint
  pub tip : Depth
  pub deeper : (depth.t *ℤ tip.over) <ℤ (tip.t *ℤ depth.over)
  pub narrow : (pos cone.sn *ℤ tip.t) ≤ℤ (pos (cone.sd * cone.rmax) *ℤ tip.over)
  pub allowed : tip.t ≤ℤ (pos limit *ℤ tip.over)
  pub inside : IsInside edges place
  pub clear : (v : RationalPoint) → IsOnOutline edges v → ¬ IsInDisc cone place tip.t tip.over v
  pub close : IsCloser (pos cone.sn *ℤ (tip.t *ℤ depth.over -ℤ depth.t *ℤ tip.over)) (pos cone.sd *ℤ (tip.over *ℤ depth.over)) place w

-- At the moment a flat bit of this radius removes the material below the point w at this depth: its axis is nearer than the radius, and it
-- is deeper. Moves are in tenths of a grid unit.
pub record IsMilledAt (radius : ℕ) (mv : Move) (w : RationalPoint) (depth : Depth) (s : Moment) : Type 0 where
  pub close : IsCloser (pos (10 * radius)) (pos 1) (place_at mv s) (tenfold w)
  pub below : (pos 10 *ℤ depth.t *ℤ s.n) <ℤ (depth_at mv s *ℤ depth.over)

-- some moment does
pub record Mills (radius : ℕ) (w : RationalPoint) (depth : Depth) (mv : Move) : Type 0 where
  pub moment : Moment
  pub milled : IsMilledAt radius mv w depth moment
