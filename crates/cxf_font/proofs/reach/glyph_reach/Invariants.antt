-- The invariant and the measure of the loop of `glyph_reach`.
use Rattle.std.proofs.Common.{◌≡◌, ◌≤◌, ◌+◌, flat_map, length, true}
use Rattle.std.specs.List.{list_all}
use Rattle.cxf_font.specs.Elements.{is_element}
use Rattle.cxf_font.specs.Placing.{farthest, points_of}
use Rattle.cxf_font.proofs.reach.glyph_reach.Given as goal

abbrev pub invariant-loop-element : goal.invariant-loop-element
invariant-loop-element l = record {
  ahead : farthest l.layout 0 l.reach.ahead (flat_map (points_of l.chord) l.rest) ≡ farthest l.layout 0 0 (flat_map (points_of l.chord) l.fn.elements);
  right : farthest l.layout l.pen l.reach.right (flat_map (points_of l.chord) l.rest) ≡ farthest l.layout l.pen 0 (flat_map (points_of l.chord) l.fn.elements);
  near : l.reach.ahead ≤ 40000000000000;
  within : l.reach.right ≤ l.pen + 40000000000000;
  sound : list_all is_element l.rest ≡ true;
}

abbrev pub decreases-loop-element : goal.decreases-loop-element
decreases-loop-element l = length l.rest
