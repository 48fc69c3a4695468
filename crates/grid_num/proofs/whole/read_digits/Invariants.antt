-- The invariants of the loop of `read_digits`.
use Rattle.std.proofs.Common.{◌≡◌, ◌<◌, ◌^◌, true, take}
use Rattle.std.specs.Str.{all_ascii_digits}
use Rattle.std.specs.Str.Parse.{digits_value}
use Rattle.grid_num.proofs.whole.read_digits.Given as goal

abbrev pub invariant-loop-byte : goal.invariant-loop-byte
invariant-loop-byte l =
    (all_ascii_digits (take l.byte-index l.text) ≡ true) × (l.number ≡ digits_value 10 (take l.byte-index l.text)) × (l.number < 10 ^ l.byte-index)
