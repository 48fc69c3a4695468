-- The invariants of the loop of `counted`.
use Rattle.std.proofs.Common.{◌≡◌, drop}
use Rattle.grid_num.specs.Decimal.{counted_digits}
use Rattle.grid_num.proofs.numeral.counted.Given as goal

abbrev pub invariant-loop-i : goal.invariant-loop-i
invariant-loop-i l = counted_digits (drop l.i l.digits) ≡ counted_digits l.digits
