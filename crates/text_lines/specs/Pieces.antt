-- Lines and words of a text, each with its place from 0.
use Rattle.std.specs.Prelude.{ℕ, ◌+◌, Bool, true, false, map, not, ◌||◌, if◌then◌else◌, List, [], ◌∷◌, filter, ◌==◌}

-- bytes of a text, and the place of the first of them
pub record Piece : Type 0 where
  pub at : ℕ
  pub bytes : List ℕ

-- the first piece with a byte before it, at the given place
abbrev pub with_first : ℕ → ℕ → List Piece → List Piece
with_first at byte [] = []
with_first at byte (piece ∷ pieces) = record { at = at; bytes = byte ∷ piece.bytes } ∷ pieces

-- The pieces between the bytes that separate them, the first and the last among them: a text without such
-- bytes is one piece. The text begins at the given place.
abbrev pub pieces : (ℕ → Bool) → ℕ → List ℕ → List Piece
pieces separates at [] = record { at = at; bytes = [] } ∷ []
pieces separates at (byte ∷ rest) =
    if separates byte
    then record { at = at; bytes = [] } ∷ pieces separates (at + 1) rest
    else with_first at byte (pieces separates (at + 1) rest)

-- without a byte
abbrev pub is_empty : List ℕ → Bool
is_empty [] = true
is_empty (byte ∷ rest) = false

-- without a carriage return (13) at the very end
abbrev pub without_return : List ℕ → List ℕ
without_return [] = []
without_return (byte ∷ []) = if byte == 13 then [] else byte ∷ []
without_return (byte ∷ next ∷ rest) = byte ∷ without_return (next ∷ rest)

-- the lines of a text: they end with a line feed (10), and a carriage return before it, or at the end of the text, is no
-- part of the line
abbrev pub lines_of : List ℕ → List Piece
lines_of text = map (λ line. record { at = line.at; bytes = without_return line.bytes }) (pieces (λ byte. byte == 10) 0 text)

-- a space or a tab
abbrev pub is_blank : ℕ → Bool
is_blank byte = byte == 32 || byte == 9

-- the words of a line, between its blanks
abbrev pub words_of : Piece → List Piece
words_of line = filter (λ word. not (is_empty word.bytes)) (pieces is_blank line.at line.bytes)
