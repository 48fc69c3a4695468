-- Ranges in grid units round a part of a path in 640ths of a grid unit: a move is in tenths, and its way has 64 parts.
use Rattle.std.specs.Prelude.{ℤ, pos, ◌+ℤ◌, ◌-ℤ◌, ◌*ℤ◌, ◌≤ℤ◌}

-- the range from low to high, in grid units, holds f and g, in 640ths, with r on each side
pub record IsAround (f g r low high : ℤ) : Type 0 where
  pub low_from : (pos 640 *ℤ low +ℤ r) ≤ℤ f
  pub low_to : (pos 640 *ℤ low +ℤ r) ≤ℤ g
  pub high_from : (f +ℤ r) ≤ℤ (pos 640 *ℤ high)
  pub high_to : (g +ℤ r) ≤ℤ (pos 640 *ℤ high)

-- the place in 640ths at the moment k / 64 of a way from f to g, both in tenths
abbrev pub place_of : (f g k : ℤ) → ℤ
place_of f g k = (pos 64 -ℤ k) *ℤ f +ℤ k *ℤ g
