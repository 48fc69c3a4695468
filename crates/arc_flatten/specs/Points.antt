-- Points in thousandths of a grid unit, as definitions see them.
use Rattle.std.specs.Prelude.{ℕ, ℤ, pos}
use Rattle.integer_algebra.specs.Ranges.{IsUpTo}
use Rattle.arc_flatten.specs.declared.fine.TheConstants.{MOST_FINE}

-- a point, in thousandths of a grid unit
pub record FinePoint : Type 0 where
  pub x : ℤ
  pub y : ℤ

-- at most 2,000,000,000,000 in size, as a number of such a point is
abbrev pub IsFine : ℤ → Type 0
IsFine z = IsUpTo (pos MOST_FINE) z

-- the ranges of the numbers of a point
pub record AreFine (x y : ℤ) : Type 0 where
  pub across : IsFine x
  pub up : IsFine y

-- both numbers of the point are at most so great in size
pub record IsPointUpTo (most : ℕ) (p : FinePoint) : Type 0 where
  pub across : IsUpTo (pos most) p.x
  pub up : IsUpTo (pos most) p.y
