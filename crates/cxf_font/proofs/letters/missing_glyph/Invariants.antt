-- The invariant and the measure of the loop of `missing_glyph`.
use Rattle.std.proofs.Common.{◌≡◌, ◌≤◌, ◌+◌, length}
use Rattle.cxf_font.specs.Letters.{missing_glyph}
use Rattle.cxf_font.proofs.letters.missing_glyph.Given as goal

abbrev pub invariant-loop-character : goal.invariant-loop-character
invariant-loop-character l = record {
  first : missing_glyph l.font l.place l.rest ≡ missing_glyph l.font 0 l.fn.characters;
  few : l.place + length l.rest ≤ 200;
}

abbrev pub decreases-loop-character : goal.decreases-loop-character
decreases-loop-character l = length l.rest
