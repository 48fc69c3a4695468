-- The invariant of the loop of `read_font`.
use Rattle.std.proofs.Common.{◌≡◌, ◌+◌, length}
use Rattle.text_lines.specs.Pieces.{lines_of}
use Rattle.cxf_font.specs.Grammar.{font_of}
use Rattle.cxf_font.specs.State.{font_on}
use Rattle.cxf_font.proofs.reader.read_font.Given as goal

abbrev pub invariant-loop-line : goal.invariant-loop-line
invariant-loop-line l = record {
  font : font_on l.reading (l.number + 1) l.line-iterator ≡ font_of l.fn.bytes;
  count : l.number + length l.line-iterator ≡ length (lines_of l.fn.bytes);
}
