-- The invariant and the measure of the loop of `letters`.
use Rattle.std.proofs.Common.{◌≡◌, ◌≤◌, ◌+◌, ◌*◌, ◌++◌, length}
use Rattle.cxf_font.specs.Letters.{letters_of}
use Rattle.cxf_font.proofs.letters.letters.Given as goal

abbrev pub invariant-loop-character : goal.invariant-loop-character
invariant-loop-character l = record {
  letters : l.letters.items ++ letters_of l.font l.layout l.chord l.line l.pen l.rest ≡ letters_of l.font l.layout l.chord 0 0 l.fn.characters;
  few : l.line + length l.rest ≤ 200;
  near : l.pen + 40200000000000 * length l.rest ≤ 8040000000000000;
}

abbrev pub decreases-loop-character : goal.decreases-loop-character
decreases-loop-character l = length l.rest
