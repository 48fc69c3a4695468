-- The invariant and the measure of the loop of `draw_letter`.
use Rattle.std.proofs.Common.{◌≡◌, ◌++◌, List, length, map, true}
use Rattle.std.specs.List.{list_all}
use Rattle.arc_flatten.specs.Points.{FinePoint}
use Rattle.cxf_font.specs.Drawn.{drawn_on}
use Rattle.cxf_font.specs.Elements.{is_element}
use Rattle.cxf_font.specs.Lay.{letter_strokes}
use Rattle.cxf_font.specs.Letters.{spot_of}
use Rattle.cxf_font.specs.Placing.{points_of}
use Rattle.cxf_font.proofs.laying.draw_letter.Given as goal

abbrev pub invariant-loop-element : goal.invariant-loop-element
invariant-loop-element l = record {
  drawn : (strokes : List (List FinePoint)) → drawn_on l.drawing (map (λ element. map (spot_of l.layout l.letter l.shift) (points_of l.chord element)) l.rest ++ strokes) ≡ drawn_on l.fn.drawing (letter_strokes l.font l.layout l.chord l.shift l.letter ++ strokes);
  sound : list_all is_element l.rest ≡ true;
}

abbrev pub decreases-loop-element : goal.decreases-loop-element
decreases-loop-element l = length l.rest
