-- The fractions of a way: its ends, and the same fraction of the way back.
use Rattle.std.proofs.Common.{pos, ◌-ℤ◌, arith}
use Rattle.std.proofs.lemmas.Int.{ints}
use Rattle.plane_exact.specs.Plane.{Fraction}

abbrev pub first : Fraction
first = record { k = pos 0; n = pos 1; start = record { le = tt }; finish = record { le = tt }; some = record { le = tt } }

abbrev pub last : Fraction
last = record { k = pos 1; n = pos 1; start = record { le = tt }; finish = record { le = tt }; some = record { le = tt } }

abbrev pub turned : Fraction → Fraction
turned s = record { k = s.n -ℤ s.k; n = s.n; start = omega (arith, ints); finish = omega (arith, ints); some = s.some }
