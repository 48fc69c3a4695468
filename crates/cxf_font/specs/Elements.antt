-- The ranges of the numbers of an element.
use Rattle.std.specs.Prelude.{Bool, ◌&&◌, ℤ, pos, int_le, nat_le, unsigned_abs}
use Rattle.cxf_font.specs.declared.element.Element.{Element}
use Rattle.cxf_font.specs.declared.element.Element.TheVariants.{Line, Arc}
use Rattle.cxf_font.specs.declared.element.TheConstants.{MOST_LENGTH, MOST_ANGLE}

-- a coordinate: at most a thousand font units in size
abbrev pub is_length : ℤ → Bool
is_length z = nat_le (unsigned_abs z) MOST_LENGTH

-- a radius: a length that isn't below 0
abbrev pub is_radius : ℤ → Bool
is_radius z = int_le (pos 0) z && is_length z

-- an angle: at most 100,000 degrees in size
abbrev pub is_angle : ℤ → Bool
is_angle z = nat_le (unsigned_abs z) MOST_ANGLE

-- an element whose numbers are in their ranges
abbrev pub is_element : Element → Bool
is_element (Line x1 y1 x2 y2) = is_length x1 && is_length y1 && is_length x2 && is_length y2
is_element (Arc cx cy r a1 a2 clockwise) = is_length cx && is_length cy && is_radius r && is_angle a1 && is_angle a2
