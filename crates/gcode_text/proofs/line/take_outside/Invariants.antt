-- The invariants of the loop of `take_outside`.
use Rattle.std.proofs.Common.{◌≡◌, ◌≤◌, false, drop, length}
use Rattle.gcode_text.specs.Grammar.{outside_comments}
use Rattle.gcode_text.proofs.Outside.{then_outside}
use Rattle.gcode_text.proofs.line.take_outside.Given as goal

abbrev pub invariant-loop-byte : goal.invariant-loop-byte
invariant-loop-byte l = record {
  outside : outside_comments false l.line ≡ then_outside l.outside.items (outside_comments l.in_comment (drop l.byte-index l.line));
  short : length l.outside.items ≤ l.byte-index;
}
