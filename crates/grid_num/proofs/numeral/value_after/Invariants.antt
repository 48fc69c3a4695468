-- The invariants of the loop of `value_after`.
use Rattle.std.proofs.Common.{◌≡◌, true, drop}
use Rattle.std.specs.Str.{all_ascii_digits}
use Rattle.std.specs.Str.Parse.{digits_value_after}
use Rattle.grid_num.proofs.numeral.value_after.Given as goal

abbrev pub invariant-loop-digit : goal.invariant-loop-digit
invariant-loop-digit l = record {
  digits : all_ascii_digits (drop l.digit-index l.digits) ≡ true;
  value : digits_value_after 10 l.number (drop l.digit-index l.digits) ≡ digits_value_after 10 l.value l.digits;
}
