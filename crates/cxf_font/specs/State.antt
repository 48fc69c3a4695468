-- Where the reader stands, as the definitions see it.
use Rattle.std.specs.Prelude.{ℕ, Bool, true, Option, Some, None, List, [], ◌∷◌, ◌++◌, map, is_some, Result, Ok}
use Rattle.text_lines.specs.Pieces.{Piece}
use Rattle.grid_num.specs.Judging.{and_then}
use Rattle.text_lines.specs.Blanks.{unpadded}
use Rattle.cxf_font.specs.Elements.{is_element}
use Rattle.cxf_font.specs.Glyphs.{glyph_of}
use Rattle.cxf_font.specs.Grammar.{elements_ahead, font_lines, glyphs_of}
use Rattle.cxf_font.specs.declared.element.Element.{Element}
use Rattle.cxf_font.specs.declared.fault.CxfFault.{CxfFault}
use Rattle.cxf_font.specs.declared.glyph.Glyph.{Glyph}
use Rattle.cxf_font.specs.declared.line.FontLine.{FontLine}
use Rattle.cxf_font.specs.declared.line.FontLine.TheVariants.{Draws}
use Rattle.cxf_font.specs.declared.reading.Reading.{Reading}

-- the fields of the pieces that are still to come
abbrev pub fields_left : List Piece → List (List ℕ)
fields_left left = map (λ piece. unpadded piece.bytes) left

-- the numbers of what a line draws are in their ranges
abbrev pub is_sound : FontLine → Bool
is_sound (Draws element) = is_element element
is_sound _ = true

-- the glyph that has begun, with the elements that later lines draw
abbrev pub going_on : Option Glyph → List FontLine → List (ℕ × List Element)
going_on None lines = []
going_on (Some glyph) lines = (glyph.key, glyph.elements.items ++ elements_ahead lines) ∷ []

-- the font with later lines behind those that are read
abbrev pub font_with : Reading → List FontLine → List (ℕ × List Element)
font_with reading lines = map glyph_of reading.glyphs.items ++ (going_on reading.last lines ++ glyphs_of lines)

-- the font with the lines that are still to come, numbered from `number`, or their first fault
abbrev pub font_on : Reading → (number : ℕ) → List Piece → Result (List (ℕ × List Element)) CxfFault
font_on reading number lines = and_then (font_lines number (is_some reading.last) lines) (λ lines. Ok (font_with reading lines))
