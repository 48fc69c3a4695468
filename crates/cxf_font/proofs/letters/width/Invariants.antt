-- The invariant and the measure of the loop of `width`.
use Rattle.std.proofs.Common.{◌≡◌, ◌≤◌, length}
use Rattle.cxf_font.specs.Letters.{width_from}
use Rattle.cxf_font.proofs.letters.width.Given as goal

abbrev pub invariant-loop-letter : goal.invariant-loop-letter
invariant-loop-letter l = record {
  width : width_from l.line l.most l.rest ≡ width_from l.line 0 l.fn.letters;
  range : l.most ≤ 9000000000000000;
}

abbrev pub decreases-loop-letter : goal.decreases-loop-letter
decreases-loop-letter l = length l.rest
