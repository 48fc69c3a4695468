-- The invariant of the loop of `read_hexadecimal`.
use Rattle.std.proofs.Common.{◌≡◌, ◌<◌, ◌^◌, true, take}
use Rattle.std.specs.Char.{is_digit}
use Rattle.std.specs.List.{list_all}
use Rattle.std.specs.Str.Parse.{digits_value}
use Rattle.cxf_font.proofs.key.read_hexadecimal.Given as goal

abbrev pub invariant-loop-digit : goal.invariant-loop-digit
invariant-loop-digit l = record {
  digits : list_all (λ digit. is_digit digit 16) (take l.digit-index l.digits) ≡ true;
  value : l.number ≡ digits_value 16 (take l.digit-index l.digits);
  small : l.number < 16 ^ l.digit-index;
}
