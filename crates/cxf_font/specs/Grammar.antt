-- The CXF form of a font: the glyphs of a text, or its first fault.
use Rattle.std.specs.Prelude.{ℕ, ◌+◌, Bool, true, false, ◌||◌, List, [], ◌∷◌, Result, Ok, Err}
use Rattle.text_lines.specs.Pieces.{Piece, lines_of}
use Rattle.grid_num.specs.Judging.{and_then}
use Rattle.cxf_font.specs.Lines.{font_line}
use Rattle.cxf_font.specs.declared.element.Element.{Element}
use Rattle.cxf_font.specs.declared.fault.CxfFault.{CxfFault}
use Rattle.cxf_font.specs.declared.fault.CxfKind.{CxfKind}
use Rattle.cxf_font.specs.declared.line.FontLine.{FontLine}
use Rattle.cxf_font.specs.declared.line.FontLine.TheVariants.{Skipped, Begins, Draws}

-- the line begins a glyph
abbrev pub begins_glyph : FontLine → Bool
begins_glyph (Begins key) = true
begins_glyph _ = false

-- a fault of the line with this number
abbrev pub at_line : {A : Type 0} → (number : ℕ) → Result A CxfKind → Result A CxfFault
at_line number (Ok x) = Ok x
at_line number (Err kind) = Err (record { line = number; kind = kind })

-- what the lines say, numbered from `number`, behind the begin of a glyph or before the first; or the first fault
unfoldable pub font_lines : (number : ℕ) → (begun : Bool) → List Piece → Result (List FontLine) CxfFault
font_lines number begun [] = Ok []
font_lines number begun (line ∷ lines) =
    and_then (at_line number (font_line begun line.bytes)) (λ first.
    and_then (font_lines (number + 1) (begun || begins_glyph first) lines) (λ others. Ok (first ∷ others)))

-- the elements that lines draw up to the begin of the next glyph
abbrev pub elements_ahead : List FontLine → List Element
elements_ahead [] = []
elements_ahead (Skipped ∷ lines) = elements_ahead lines
elements_ahead (Begins key ∷ lines) = []
elements_ahead (Draws element ∷ lines) = element ∷ elements_ahead lines

-- the glyphs that lines begin, each with its elements
abbrev pub glyphs_of : List FontLine → List (ℕ × List Element)
glyphs_of [] = []
glyphs_of (Skipped ∷ lines) = glyphs_of lines
glyphs_of (Begins key ∷ lines) = (key, elements_ahead lines) ∷ glyphs_of lines
glyphs_of (Draws element ∷ lines) = glyphs_of lines

-- the font of a text in CXF form, or its first fault
unfoldable pub font_of : List ℕ → Result (List (ℕ × List Element)) CxfFault
font_of text = and_then (font_lines 1 false (lines_of text)) (λ lines. Ok (glyphs_of lines))
