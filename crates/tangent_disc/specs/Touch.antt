-- The discs at a contact on one side, as the code has them, and what is asked of one edge.
use Rattle.std.specs.Prelude.{◌≡◌, ℕ, ◌≤◌, ℤ, pos, ◌+ℤ◌, ◌*ℤ◌, ◌≤ℤ◌}
use Rattle.plane_exact.specs.Distance.{square}
use Rattle.plane_exact.specs.Plane.{RationalPoint, IsBetween}
use Rattle.plane_exact.specs.declared.point.Seg.{Seg}
use Rattle.tangent_disc.specs.Tangent.{IsEdgePoint, IsTouched, centre_over, centre_x, centre_y, normal, point_x, point_y}
use Rattle.tangent_disc.specs.Ways.{IsAmongGrid, most_over}
use Rattle.tangent_disc.specs.declared.disc.Side.{Side}
use Rattle.tangent_disc.specs.declared.edge_point.EdgePoint.{EdgePoint}
use Rattle.tangent_disc.specs.declared.open_disc.OpenDisc.{OpenDisc}
use Rattle.tangent_disc.specs.declared.ways.Progress.{Progress}

-- the centres of the discs on a side of the point, with their denominator, and the square of the step from one to the next
pub record IsTouchAt (side : Side) (p : EdgePoint) (across up : Progress) (over size : ℤ) : Type 0 where
  pub ranged : IsEdgePoint p
  pub start_x : across.start ≡ p.length *ℤ point_x p
  pub start_y : up.start ≡ p.length *ℤ point_y p
  pub step_x : across.step ≡ p.n *ℤ (normal side p.edge).x
  pub step_y : up.step ≡ p.n *ℤ (normal side p.edge).y
  pub denominator : over ≡ centre_over p
  pub some : pos 1 ≤ℤ over
  pub small : over ≤ℤ most_over
  pub among_x : IsAmongGrid across.start over
  pub among_y : IsAmongGrid up.start over
  pub squared : size ≡ square across.step +ℤ square up.step
  pub short : size ≤ℤ square over

-- d is the disc j on a side of the point
pub record IsDiscOf (side : Side) (p : EdgePoint) (j : ℕ) (d : OpenDisc) : Type 0 where
  pub across : d.x ≡ centre_x side p j
  pub up : d.y ≡ centre_y side p j
  pub denominator : d.over ≡ centre_over p
  pub wide : d.reach ≡ square (pos j) *ℤ (square (p.n *ℤ (normal side p.edge).x) +ℤ square (p.n *ℤ (normal side p.edge).y))

-- the number is free as far as one edge goes
unfoldable pub IsFreeOf : Side → EdgePoint → ℕ → Seg → Type 0
IsFreeOf side p j e = (w : RationalPoint) → IsBetween e.a e.b w → ¬ IsTouched side p j w

-- the greatest number up to most that is free as far as one edge goes
pub record IsGreatestFreeOf (e : Seg) (side : Side) (p : EdgePoint) (most j : ℕ) : Type 0 where
  pub free : IsFreeOf side p j e
  pub within : j ≤ most
  pub greatest : (i : ℕ) → i ≤ most → IsFreeOf side p i e → i ≤ j

-- the centre of the disc j is in the range of the grid
pub record IsCentreOnGrid (side : Side) (p : EdgePoint) (j : ℕ) : Type 0 where
  pub across : IsAmongGrid (centre_x side p j) (centre_over p)
  pub up : IsAmongGrid (centre_y side p j) (centre_over p)
