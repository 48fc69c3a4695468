-- What a font draws for a character.
use Rattle.std.specs.Prelude.{ℕ, ◌==◌, List, Option}
use Rattle.std.specs.Map.{lookup}
use Rattle.cxf_font.specs.declared.element.Element.{Element}

-- the elements of the first glyph of the character
abbrev pub elements_of : List (ℕ × List Element) → ℕ → Option (List Element)
elements_of font key = lookup (λ other. other == key) font
