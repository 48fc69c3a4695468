-- Corners of a POLYLINE, as definitions see them.
use Rattle.std.specs.Prelude.{ℤ, pos}
use Rattle.integer_algebra.specs.Ranges.{IsUpTo}
use Rattle.arc_flatten.specs.Points.{FinePoint, IsPointUpTo}
use Rattle.arc_flatten.specs.declared.halving.TheConstants.{MOST_BULGE, MOST_END}

-- where a corner is, and the bulge of the way from it to the next
pub record CornerPoint : Type 0 where
  pub place : FinePoint
  pub bulge : ℤ

-- the ranges of a corner's numbers
pub record IsCorner (place : FinePoint) (bulge : ℤ) : Type 0 where
  pub near : IsPointUpTo MOST_END place
  pub bent : IsUpTo (pos MOST_BULGE) bulge
