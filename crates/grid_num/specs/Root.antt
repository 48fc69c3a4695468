-- Whole square roots.
use Rattle.std.specs.Prelude.{ℕ, zero, suc, ◌*◌, if◌then◌else◌, nat_le}

-- the greatest number up to `most` whose square is at most v
abbrev pub root_within : (v most : ℕ) → ℕ
root_within v zero = 0
root_within v (suc most) = if nat_le (suc most * suc most) v then suc most else root_within v most

-- the square root of v, rounded down
unfoldable pub isqrt_of : ℕ → ℕ
isqrt_of v = root_within v v
