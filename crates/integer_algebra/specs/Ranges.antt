-- Ranges of whole numbers.
use Rattle.std.specs.Prelude.{ℤ, neg_ℤ, ◌≤ℤ◌}

-- z is from least to most
pub record IsWithin (least most z : ℤ) : Type 0 where
  pub low : least ≤ℤ z
  pub high : z ≤ℤ most

-- z is from -most to most
abbrev pub IsUpTo : ℤ → ℤ → Type 0
IsUpTo most z = IsWithin (neg_ℤ most) most z
