-- The invariant and the measure of the loop of `draw_letters`.
use Rattle.std.proofs.Common.{◌≡◌, length}
use Rattle.cxf_font.specs.Drawn.{drawn_on}
use Rattle.cxf_font.specs.Lay.{segments_of_letters, strokes_of}
use Rattle.cxf_font.proofs.laying.draw_letters.Given as goal

abbrev pub invariant-loop-letter : goal.invariant-loop-letter
invariant-loop-letter l = drawn_on l.drawing (strokes_of l.font l.layout l.chord l.letters l.rest) ≡ segments_of_letters l.font l.layout l.chord l.fn.letters

abbrev pub decreases-loop-letter : goal.decreases-loop-letter
decreases-loop-letter l = length l.rest
