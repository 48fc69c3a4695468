-- A glyph as definitions see it.
use Rattle.std.specs.Prelude.{ℕ, List}
use Rattle.cxf_font.specs.declared.element.Element.{Element}
use Rattle.cxf_font.specs.declared.glyph.Glyph.{Glyph}

-- the character and the elements of a glyph
abbrev pub glyph_of : Glyph → ℕ × List Element
glyph_of glyph = (glyph.key, glyph.elements.items)
