-- The first glyph of a character.
use Rattle.std.proofs.Common.{◌≡◌, ℕ, true, false, List, [], ◌∷◌, cond, find, map, option_map, ◌==◌, Some, refl}
use Rattle.cxf_font.specs.Fonts.{elements_of}
use Rattle.cxf_font.specs.Glyphs.{glyph_of}
use Rattle.cxf_font.specs.declared.glyph.Glyph.{Glyph}

-- it is the first in the list whose character is this one
pub elements_of-found : (glyphs : List Glyph) (key : ℕ) → elements_of (map glyph_of glyphs) key ≡ option_map (λ (glyph : Glyph). glyph.elements.items) (find (λ (glyph : Glyph). glyph.key == key) glyphs)
elements_of-found [] key = refl
elements_of-found (glyph ∷ glyphs) key =
    elim (glyph.key == key) as (λ b. cond b (Some glyph.elements.items) (elements_of (map glyph_of glyphs) key) ≡ option_map (λ (glyph : Glyph). glyph.elements.items) (cond b (Some glyph) (find (λ (glyph : Glyph). glyph.key == key) glyphs))) [
      | true ↦ refl
      | false ↦ elements_of-found glyphs key
    ]
