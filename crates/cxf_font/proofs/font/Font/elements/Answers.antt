-- Answers the goals of `Font::elements`.
use Rattle.std.proofs.Common.{◌∙◌, ap, sym, map, List, option_map}
use Rattle.cxf_font.specs.Fonts.{elements_of}
use Rattle.cxf_font.specs.Glyphs.{glyph_of}
use Rattle.cxf_font.specs.declared.glyph.Glyph.{Glyph}
use Rattle.cxf_font.proofs.Finding.{elements_of-found}
use Rattle.cxf_font.proofs.font.Font.elements.Goals as goal

pub returns-in_err-glyph-clause-value : goal.returns-in_err-glyph-clause-value
returns-in_err-glyph-clause-value c =
    let seen = sym c.self.view_is ∙ ap (λ (glyphs : List Glyph). map glyph_of glyphs) (sym c.deref.ensures.value) in
    rw c.from_residual.ensures (ap (λ font. elements_of font c.args.key) seen ∙ elements_of-found c.deref.result.now c.args.key ∙ ap (option_map (λ (glyph : Glyph). glyph.elements.items)) (sym c.in_err-glyph.ensures))

pub returns-clause-value : goal.returns-clause-value
returns-clause-value c =
    let seen = sym c.self.view_is ∙ ap (λ (glyphs : List Glyph). map glyph_of glyphs) (sym c.deref.ensures.value) in
    rw c.deref-2.ensures.value (ap (λ font. elements_of font c.args.key) seen ∙ elements_of-found c.deref.result.now c.args.key ∙ ap (option_map (λ (glyph : Glyph). glyph.elements.items)) (sym c.in_ok-glyph.ensures))
