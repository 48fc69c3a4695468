-- The letters of a text, each on its line with its pen.
use Rattle.std.specs.Prelude.{ℕ, Bool, ◌+◌, ◌*◌, ◌≤◌, ◌==◌, ◌||◌, if◌then◌else◌, is_some, max, Option, Some, None, List, [], ◌∷◌, pos, ◌+ℤ◌, ◌-ℤ◌, flat_map, unwrap_or}
use Rattle.arc_flatten.specs.Points.{FinePoint}
use Rattle.cxf_font.specs.Fonts.{elements_of}
use Rattle.cxf_font.specs.Placing.{across, farthest, line_step, points_of, turned, up}
use Rattle.cxf_font.specs.declared.element.Element.{Element}
use Rattle.cxf_font.specs.declared.layout.Layout.{Layout}
use Rattle.cxf_font.specs.declared.letter.TheConstants.{MOST_CHARACTERS, MOST_REACH}

-- a letter: the number of its line from 0, its character, where its pen stands, and the greatest x of its points, or 0 where that is less
pub record Letter : Type 0 where
  pub line : ℕ
  pub key : ℕ
  pub pen : ℕ
  pub right : ℕ

-- the ranges of the numbers of a letter
pub record AreLetter (line pen right : ℕ) : Type 0 where
  pub on_line : line ≤ MOST_CHARACTERS
  pub begins : pen ≤ MOST_REACH
  pub ends : right ≤ MOST_REACH

-- the character is a space (32) or ends a line (10)
abbrev pub is_blank_character : ℕ → Bool
is_blank_character character = character == 32 || character == 10

-- the place, numbered from `place` on, of the first character that is no blank and has no glyph
unfoldable pub missing_glyph : List (ℕ × List Element) → (place : ℕ) → List ℕ → Option ℕ
missing_glyph font place [] = None
missing_glyph font place (c ∷ text) = if is_blank_character c || is_some (elements_of font c) then missing_glyph font (place + 1) text else Some place

-- the elements of a character's glyph; none where it has no glyph
abbrev pub drawn_for : List (ℕ × List Element) → ℕ → List Element
drawn_for font key = unwrap_or (elements_of font key) []

-- the points of a character's glyph
abbrev pub glyph_points : List (ℕ × List Element) → (chord : ℕ) → ℕ → List FinePoint
glyph_points font chord key = flat_map (points_of chord) (drawn_for font key)

-- how far a glyph moves the pen: by the greatest of 0 and its points' x, and by the space between characters
abbrev pub advance_of : List (ℕ × List Element) → Layout → (chord : ℕ) → ℕ → ℕ
advance_of font layout chord key = farthest layout 0 0 (glyph_points font chord key) + layout.height * layout.charspace * 10

-- the letter of a character
abbrev pub letter_of : List (ℕ × List Element) → Layout → (chord line pen : ℕ) → ℕ → Letter
letter_of font layout chord line pen key = record { line = line; key = key; pen = pen; right = farthest layout pen 0 (glyph_points font chord key) }

-- the letters of a text, from a line and a pen on: a line begins at 0, and a space moves the pen
unfoldable pub letters_of : List (ℕ × List Element) → Layout → (chord line pen : ℕ) → List ℕ → List Letter
letters_of font layout chord line pen [] = []
letters_of font layout chord line pen (c ∷ text) =
    if c == 10 then letters_of font layout chord (line + 1) 0 text
    else if c == 32 then letters_of font layout chord line (pen + layout.height * layout.wordspace * 10) text
    else letter_of font layout chord line pen c ∷ letters_of font layout chord line (pen + advance_of font layout chord c) text

-- the greatest of `most` and of the x of the letters of the line
unfoldable pub width_from : (line most : ℕ) → List Letter → ℕ
width_from line most [] = most
width_from line most (letter ∷ letters) = width_from line (if letter.line == line then max most letter.right else most) letters

-- where a letter's point comes to stand, in thousandths of a grid unit, on a line that is moved so far to the left
abbrev pub spot_of : Layout → Letter → (shift : ℕ) → FinePoint → FinePoint
spot_of layout letter shift p = record {
  x = turned layout.mirror (pos letter.pen +ℤ across layout p -ℤ pos shift);
  y = turned layout.flip (up layout p -ℤ pos (letter.line * line_step layout));
}
