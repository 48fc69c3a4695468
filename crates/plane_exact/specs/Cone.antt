-- The conical bit, and which numbers make one.
use Rattle.std.specs.Prelude.{ℕ, ◌≤◌}
use Rattle.plane_exact.specs.declared.bit.TheConstants.{MOST_SLOPE, MOST_RADIUS}

-- At depth z the bit's radius at the surface is sn z / sd; rmax is the greatest radius it may cut with.
pub record Cone : Type 0 where
  pub sn : ℕ
  pub sd : ℕ
  pub rmax : ℕ

-- n is from 1 to most
pub record IsFromOneTo (most n : ℕ) : Type 0 where
  pub low : 1 ≤ n
  pub high : n ≤ most

-- the ranges of the numbers of a bit
pub record IsCone (sn sd rmax : ℕ) : Type 0 where
  pub slope : IsFromOneTo MOST_SLOPE sn
  pub over : IsFromOneTo MOST_SLOPE sd
  pub widest : IsFromOneTo MOST_RADIUS rmax
