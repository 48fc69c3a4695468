-- The segments of a text that is laid out.
use Rattle.std.specs.Prelude.{ℕ, ◌++◌, if◌then◌else◌, Option, Some, None, List, [], ◌∷◌, map, length, nat_le, Result, Ok, Err, chars}
use Rattle.grid_num.specs.Judging.{and_then}
use Rattle.plane_exact.specs.declared.point.Seg.{Seg}
use Rattle.arc_flatten.specs.Points.{FinePoint}
use Rattle.arc_flatten.specs.Segments.{segments_of}
use Rattle.cxf_font.specs.Layouts.{shift_of}
use Rattle.cxf_font.specs.Letters.{Letter, drawn_for, letters_of, missing_glyph, spot_of, width_from}
use Rattle.cxf_font.specs.Placing.{points_of}
use Rattle.cxf_font.specs.declared.drawing.TheConstants.{MOST_LETTERING}
use Rattle.cxf_font.specs.declared.element.Element.{Element}
use Rattle.cxf_font.specs.declared.lay_fault.LayFault.{LayFault}
use Rattle.cxf_font.specs.declared.lay_fault.LayFault.TheVariants.{NoGlyph, OutOfRange, TooMany}
use Rattle.cxf_font.specs.declared.layout.Layout.{Layout}

-- the points of each element of a letter, where they come to stand on a line that is moved so far to the left
abbrev pub letter_strokes : List (ℕ × List Element) → Layout → (chord shift : ℕ) → Letter → List (List FinePoint)
letter_strokes font layout chord shift letter = map (λ element. map (spot_of layout letter shift) (points_of chord element)) (drawn_for font letter.key)

-- the strokes of letters, each moved with its line, whose width is that of all its `letters`
unfoldable pub strokes_of : List (ℕ × List Element) → Layout → (chord : ℕ) → (letters : List Letter) → List Letter → List (List FinePoint)
strokes_of font layout chord letters [] = []
strokes_of font layout chord letters (letter ∷ later) =
    letter_strokes font layout chord (shift_of layout.justify (width_from letter.line 0 letters)) letter ++ strokes_of font layout chord letters later

-- segments, where no point was out of range
abbrev pub in_range : Option (List Seg) → Result (List Seg) LayFault
in_range (Some segs) = Ok segs
in_range None = Err OutOfRange

-- the segments of all strokes, where no point is out of range
unfoldable pub all_segments : List (List FinePoint) → Result (List Seg) LayFault
all_segments [] = Ok []
all_segments (points ∷ strokes) = and_then (in_range (segments_of points)) (λ segs. and_then (all_segments strokes) (λ others. Ok (segs ++ others)))

-- not too many segments
unfoldable pub few : List Seg → Result (List Seg) LayFault
few segs = if nat_le (length segs) MOST_LETTERING then Ok segs else Err TooMany

-- the segments of letters
abbrev pub segments_of_letters : List (ℕ × List Element) → Layout → (chord : ℕ) → List Letter → Result (List Seg) LayFault
segments_of_letters font layout chord letters = and_then (all_segments (strokes_of font layout chord letters letters)) few

-- the segments of a text in a font, or what keeps it from being laid out
unfoldable pub lay_of : List (ℕ × List Element) → (text : List ℕ) → Layout → (chord : ℕ) → Result (List Seg) LayFault
lay_of font text layout chord = unless_missing (missing_glyph font 0 (chars text))
  where
    unless_missing : Option ℕ → Result (List Seg) LayFault
    unless_missing (Some place) = Err (NoGlyph place)
    unless_missing None = segments_of_letters font layout chord (letters_of font layout chord 0 0 (chars text))
