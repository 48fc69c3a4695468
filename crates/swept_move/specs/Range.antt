-- The ranges of the numbers by which a move is compared with an edge, in tenths of a grid unit.
use Rattle.std.specs.Prelude.{ℤ, pos}
use Rattle.integer_algebra.specs.Ranges.{IsUpTo}

-- as the difference of two coordinates in tenths is, and more than that of two heights
abbrev pub IsFineWay : ℤ → Type 0
IsFineWay z = IsUpTo (pos 655350) z

-- as the products of two ways are: twice 655,350^2
abbrev pub IsFineProduct : ℤ → Type 0
IsFineProduct z = IsUpTo (pos 858967245000) z

-- the square of SN or SD times such a product: 2000^2 times as great
abbrev pub IsFineScaled : ℤ → Type 0
IsFineScaled z = IsUpTo (pos 3435868980000000000) z

-- the difference of two of these
abbrev pub IsFineCoefficient : ℤ → Type 0
IsFineCoefficient z = IsUpTo (pos 6871737960000000000) z
