-- Where the points of a glyph come to stand, in thousandths of a grid unit.
use Rattle.std.specs.Prelude.{ℕ, ◌*◌, Bool, true, false, max, List, [], ◌∷◌, ℤ, pos, negsuc, neg_ℤ, ◌+ℤ◌, ◌*ℤ◌, reverse}
use Rattle.grid_num.specs.Rounding.{nearest}
use Rattle.arc_flatten.specs.Arcs.{arc_points}
use Rattle.arc_flatten.specs.Points.{FinePoint}
use Rattle.arc_flatten.specs.Turns.{span_between, turn_of}
use Rattle.cxf_font.specs.declared.element.Element.{Element}
use Rattle.cxf_font.specs.declared.element.Element.TheVariants.{Line, Arc}
use Rattle.cxf_font.specs.declared.layout.Layout.{Layout}

-- the points of the arc that goes counterclockwise from one angle to another
abbrev pub arc_between : FinePoint → (r from to : ℤ) → (chord : ℕ) → List FinePoint
arc_between c r from to chord = arc_points c r (turn_of from) (span_between (turn_of from) (turn_of to)) chord

-- The points of an element, in millionths of a font unit: the ends of a line, or the points of an arc, whose pieces are no wider than so
-- many degrees. A clockwise arc is the counterclockwise one from its last angle to its first, with the points reversed.
unfoldable pub points_of : (chord : ℕ) → Element → List FinePoint
points_of chord (Line x1 y1 x2 y2) = record { x = x1; y = y1 } ∷ record { x = x2; y = y2 } ∷ []
points_of chord (Arc cx cy r a1 a2 false) = arc_between (record { x = cx; y = cy }) r a1 a2 chord
points_of chord (Arc cx cy r a1 a2 true) = reverse (arc_between (record { x = cx; y = cy }) r a2 a1 chord)

-- how far a point is from the left of its glyph; the height is that of nine font units, and the width is a part of it in percent
unfoldable pub across : Layout → FinePoint → ℤ
across layout p = nearest (p.x *ℤ pos (layout.height * layout.width)) 900000

-- how far a point is above the line that its glyph stands on
unfoldable pub up : Layout → FinePoint → ℤ
up layout p = nearest (p.y *ℤ pos layout.height) 9000

-- the number, or 0 where it is negative
abbrev pub above_zero : ℤ → ℕ
above_zero (pos n) = n
above_zero (negsuc n) = 0

-- the greatest of `most` and of the x that the points have from the pen on
unfoldable pub farthest : Layout → (pen most : ℕ) → List FinePoint → ℕ
farthest layout pen most [] = most
farthest layout pen most (p ∷ points) = farthest layout pen (max most (above_zero (pos pen +ℤ across layout p))) points

-- with the sign changed, or as it is
abbrev pub turned : Bool → ℤ → ℤ
turned true z = neg_ℤ z
turned false z = z

-- from one line to the next
abbrev pub line_step : Layout → ℕ
line_step layout = layout.height * layout.linespace * 10
