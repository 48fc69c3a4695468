-- The first character of a text.
use Rattle.std.proofs.Common.{◌≡◌, ℕ, Option, Some, None, List, [], ◌∷◌, ◌++◌, length, take, drop, refl, sym, ap, ◌∙◌, arith}
use Rattle.std.specs.Char.{len_utf8}
use Rattle.std.specs.List.{slice_get}
use Rattle.std.specs.Str.{chars}
use Rattle.std.specs.Str.Lossy.{utf8_valid_len}
use Rattle.std.proofs.Math.Seq.{take-append_seam}
use Rattle.std.proofs.lemmas.Str.{chars-nil, utf8_valid_len_le}
use Rattle.cxf_font.specs.Keys.{first_byte, first_character}

-- the front of a text, by its length
front_is : (text front rest : List ℕ) (n : ℕ) → text ≡ front ++ rest → length front ≡ n → take n text ≡ front
front_is text front rest n whole long = rw (whole, ← long) (take-append_seam front rest)

module _ (text front rest : List ℕ) (whole : text ≡ front ++ rest) (long : length front ≡ utf8_valid_len text) where
  first_is : (found : Option ℕ) → found ≡ slice_get (chars front) 0 → slice_get (chars (take (utf8_valid_len text) text)) 0 ≡ found
  first_is found is = ap (λ front. slice_get (chars front) 0) (front_is text front rest (utf8_valid_len text) whole long) ∙ sym is

  -- a front in UTF-8 that begins with a character
  pub first_character-Some : (character : ℕ) → Some character ≡ slice_get (chars front) 0 → first_character text ≡ Some (character, drop (len_utf8 character) text)
  unfolding first_character
  first_character-Some character is = rw (first_is (Some character) is) refl

  -- no such front
  pub first_character-None : None ≡ slice_get (chars front) 0 → first_character text ≡ first_byte text
  unfolding first_character
  first_character-None is = rw (first_is None is) refl

-- no character
pub first_character-nil : (text : List ℕ) → length text ≡ 0 → first_character text ≡ None
first_character-nil [] none =
    let front : length {A = ℕ} [] ≡ utf8_valid_len [] = omega (arith, utf8_valid_len_le []) in
    first_character-None [] [] [] refl front (rw chars-nil refl)
first_character-nil (byte ∷ rest) none = absurd (omega arith)
