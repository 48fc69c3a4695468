-- Quotients rounded down.
use Rattle.std.specs.Prelude.{ℤ, pos, ◌+ℤ◌, ◌*ℤ◌, ◌≤ℤ◌, ◌<ℤ◌}

-- whole is the floor of z / over
pub record IsFloor (z over whole : ℤ) : Type 0 where
  pub low : (over *ℤ whole) ≤ℤ z
  pub high : z <ℤ (over *ℤ (whole +ℤ pos 1))
