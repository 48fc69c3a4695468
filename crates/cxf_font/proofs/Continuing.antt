-- A font read on, line after line.
use Rattle.std.proofs.Common.{◌≡◌, ℕ, ◌+◌, false, ◌||◌, List, [], ◌∷◌, is_some, Result, Ok, Err, refl, sym, ap, ◌∙◌}
use Rattle.text_lines.specs.Pieces.{Piece, lines_of}
use Rattle.grid_num.specs.Judging.{and_then}
use Rattle.cxf_font.specs.Grammar.{begins_glyph, font_lines, font_of, glyphs_of}
use Rattle.cxf_font.specs.Lines.{font_line}
use Rattle.cxf_font.specs.State.{font_on, font_with}
use Rattle.cxf_font.specs.declared.fault.CxfKind.{CxfKind}
use Rattle.cxf_font.specs.declared.line.FontLine.{FontLine}
use Rattle.cxf_font.specs.declared.reading.Reading.{Reading}

-- the same follows
and_then-same : {A B E : Type 0} (found : Result A E) (f g : A → Result B E) → ((x : A) → f x ≡ g x) → and_then found f ≡ and_then found g
and_then-same (Ok x) f g same = same x
and_then-same (Err fault) f g same = refl

-- one step after another
and_then-twice : {A B C E : Type 0} (found : Result A E) (f : A → B) (g : B → Result C E) → and_then (and_then found (λ x. Ok (f x))) g ≡ and_then found (λ x. g (f x))
and_then-twice (Ok x) f g = refl
and_then-twice (Err fault) f g = refl

-- nothing is read
pub font_on-begin : (reading : Reading) (text : List ℕ) → ((lines : List FontLine) → font_with reading lines ≡ glyphs_of lines) → is_some reading.last ≡ false → font_on reading 1 (lines_of text) ≡ font_of text
unfolding font_of
font_on-begin reading text font begun =
    rw begun (and_then-same (font_lines 1 false (lines_of text)) _ _ (λ lines. ap Ok (font lines)))

-- a line is taken
pub font_on-step : (reading next : Reading) (number : ℕ) (line : Piece) (lines : List Piece) (said : FontLine) → font_line (is_some reading.last) line.bytes ≡ Ok said → ((later : List FontLine) → font_with next later ≡ font_with reading (said ∷ later)) → is_some next.last ≡ (is_some reading.last || begins_glyph said) → font_on next (number + 1) lines ≡ font_on reading number (line ∷ lines)
unfolding font_lines
font_on-step reading next number line lines said is font begun =
    rw (is, begun) (and_then-same (font_lines (number + 1) (is_some reading.last || begins_glyph said) lines) _ _ (λ later. ap Ok (font later)) ∙ sym (and_then-twice (font_lines (number + 1) (is_some reading.last || begins_glyph said) lines) _ _))

-- a line is faulty
pub font_on-fault : (reading : Reading) (number : ℕ) (line : Piece) (lines : List Piece) (kind : CxfKind) → font_line (is_some reading.last) line.bytes ≡ Err kind → font_on reading number (line ∷ lines) ≡ Err (record { line = number; kind = kind })
unfolding font_lines
font_on-fault reading number line lines kind is = rw is refl

-- no line is left
pub font_on-end : (reading : Reading) (number : ℕ) → font_on reading number [] ≡ Ok (font_with reading [])
unfolding font_lines
font_on-end reading number = refl
