-- Pairs of lines, one after another.
use Rattle.std.proofs.Common.{◌≡◌, ◌≤◌, ℕ, suc, ◌+◌, Bool, true, false, if◌then◌else◌, Some, List, [], ◌∷◌, length, filter, ℤ, codes, nat_lt, refl, arith}
use Rattle.std.proofs.lemmas.List.{length-map}
use Rattle.text_lines.specs.Blanks.{unpadded}
use Rattle.text_lines.specs.Pieces.{Piece, lines_of}
use Rattle.text_lines.proofs.Counts.{length-lines_of}
use Rattle.dxf_outline.specs.Pairs.{Next, code_of, is_pair, pairs_from}
use Rattle.dxf_outline.specs.Texts.{texts_of}

-- a whole pair that doesn't end the file
pub pairs_from-Next : (at : ℕ) (code value : List ℕ) (lines : List (List ℕ)) (number : ℤ) → code_of code ≡ Some number → is_pair 0 (codes "EOF") (record { at = at; code = number; value = value }) ≡ false → pairs_from at (code ∷ value ∷ lines) ≡ Next (record { at = at; code = number; value = value }) (pairs_from (at + 1) lines)
pairs_from-Next at code value lines number is goes_on = rw (is, goes_on) refl

-- ---- a text has at most one line more than bytes
length-filter_le : (p : Piece → Bool) (lines : List Piece) → length (filter p lines) ≤ length lines
length-filter_le p [] = omega arith
length-filter_le p (line ∷ lines) =
    elim (p line) as (λ b. length (if b then line ∷ filter p lines else filter p lines) ≤ suc (length lines)) [
      | true ↦ omega (arith, length-filter_le p lines)
      | false ↦ omega (arith, length-filter_le p lines)
    ]

pub length-texts_of : (bytes : List ℕ) → length (texts_of bytes) ≤ length bytes + 1
length-texts_of bytes =
    let lines = lines_of bytes in
    let kept = filter (λ (line : Piece). nat_lt line.at (length bytes)) lines in
    let mapped = length-map {B = List ℕ} kept (λ (line : Piece). unpadded line.bytes) in
    omega (arith, mapped, length-filter_le (λ line. nat_lt line.at (length bytes)) lines, length-lines_of bytes)
