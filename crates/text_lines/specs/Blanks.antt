-- Blanks at the ends of a text.
use Rattle.std.specs.Prelude.{ℕ, if◌then◌else◌, List, [], ◌∷◌}
use Rattle.text_lines.specs.Pieces.{is_blank}

-- without blanks at the front
abbrev pub without_front : List ℕ → List ℕ
without_front [] = []
without_front (byte ∷ rest) = if is_blank byte then without_front rest else byte ∷ rest

-- a byte before a text that ends with no blank: a blank before nothing is one at the end
abbrev pub before : ℕ → List ℕ → List ℕ
before byte [] = if is_blank byte then [] else byte ∷ []
before byte (next ∷ rest) = byte ∷ next ∷ rest

-- without blanks at the end
abbrev pub without_back : List ℕ → List ℕ
without_back [] = []
without_back (byte ∷ rest) = before byte (without_back rest)

-- without blanks at both ends
abbrev pub unpadded : List ℕ → List ℕ
unpadded text = without_back (without_front text)
