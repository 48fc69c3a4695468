-- The invariants of the loop of `digits_at_front`.
use Rattle.std.proofs.Common.{◌≡◌, true, take}
use Rattle.std.specs.Str.{all_ascii_digits}
use Rattle.std.specs.Str.Parse.{digits_value_after}
use Rattle.grid_num.proofs.numeral.digits_at_front.Given as goal

abbrev pub invariant-loop-i : goal.invariant-loop-i
invariant-loop-i l = record {
  value : l.number ≡ digits_value_after 10 l.value (take l.i l.text);
  digits : all_ascii_digits (take l.i l.text) ≡ true;
}
