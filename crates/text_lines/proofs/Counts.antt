-- A text has at most one line more than bytes.
use Rattle.std.proofs.Common.{◌≡◌, ◌≤◌, ℕ, suc, ◌+◌, Bool, true, false, if◌then◌else◌, List, [], ◌∷◌, length, ◌==◌, refl, arith}
use Rattle.std.proofs.lemmas.List.{length-map}
use Rattle.text_lines.specs.Pieces.{Piece, lines_of, pieces, with_first, without_return}

length-with_first : (at byte : ℕ) (others : List Piece) → length (with_first at byte others) ≡ length others
length-with_first at byte [] = refl
length-with_first at byte (piece ∷ others) = refl

length-pieces : (separates : ℕ → Bool) (at : ℕ) (text : List ℕ) → length (pieces separates at text) ≤ length text + 1
length-pieces separates at [] = omega arith
length-pieces separates at (byte ∷ rest) =
    elim (separates byte) as (λ b. length (if b then record { at = at; bytes = [] } ∷ pieces separates (at + 1) rest else with_first at byte (pieces separates (at + 1) rest)) ≤ suc (length rest) + 1) [
      | true ↦ omega (arith, length-pieces separates (at + 1) rest)
      | false ↦ omega (arith, length-pieces separates (at + 1) rest, length-with_first at byte (pieces separates (at + 1) rest))
    ]

pub length-lines_of : (text : List ℕ) → length (lines_of text) ≤ length text + 1
length-lines_of text =
    let trimmed = length-map {B = Piece} (pieces (λ byte. byte == 10) 0 text) (λ (line : Piece). record { at = line.at; bytes = without_return line.bytes }) in
    omega (arith, trimmed, length-pieces (λ byte. byte == 10) 0 text)
