-- What the reading of a character is worth.
use Rattle.std.specs.Prelude.{◌≡◌, ℕ, List, ◌∷◌, ◌++◌, Ok}
use Rattle.std.specs.Char.{IsScalar, encode_utf8}
use Rattle.cxf_font.specs.Keys.{key_of}

-- each Unicode character in brackets, in UTF-8, is the key, whatever stands behind
abbrev pub KeyLaw : Type 0
KeyLaw = (character : ℕ) (rest : List ℕ) → IsScalar character → key_of (encode_utf8 character ++ 93 ∷ rest) ≡ Ok character
