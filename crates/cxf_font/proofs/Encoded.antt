-- A character in UTF-8, read as itself.
use Rattle.std.proofs.Common.{◌≡◌, ◌≤◌, ℕ, zero, suc, ◌+◌, ◌-◌, Some, None, Ok, List, [], ◌∷◌, ◌++◌, length, take, drop, ◌==◌, refl, sym, ap, subst, ◌∙◌, inl, inr, arith, length-append}
use Rattle.std.specs.Char.{IsScalar, len_utf8, encode_utf8}
use Rattle.std.specs.List.{slice_get}
use Rattle.std.specs.Str.{IsUtf8, chars, is_utf8}
use Rattle.std.specs.Str.Lossy.{utf8_valid_len, valid_len_up_to}
use Rattle.std.proofs.Math.Seq.{drop-append_seam, take-append-add, take-append_seam}
use Rattle.std.proofs.lemmas.Bool.{cases_Bool, cases_lt, cond-false, cond-true, lt-ltb, true≢false}
use Rattle.std.proofs.lemmas.Bool.Decides.{nat_tests}
use Rattle.std.proofs.lemmas.List.{length-take-le, take-append-drop}
use Rattle.std.proofs.lemmas.Str.{IsUtf8-encode, IsUtf8-from_is_utf8, IsUtf8-nil, char_from_byte, chars_past_char, encode_ascii, is_utf8-from_IsUtf8, length-encode, utf8_valid_len_le}
use Rattle.cxf_font.specs.Keys.{first_character, hexadecimal_of, key_of, number_in_brackets, number_of}
use Rattle.cxf_font.proofs.Characters.{first_character-Some}

-- the front that is counted is UTF-8
valid_front : (text : List ℕ) (most : ℕ) → IsUtf8 (take (valid_len_up_to text most) text)
valid_front text zero = IsUtf8-nil
valid_front text (suc most) =
    elim (cases_Bool (is_utf8 (take (suc most) text))) [
      | inl valid ↦ subst (λ n. IsUtf8 (take n text)) (sym (cond-true _ (suc most) (valid_len_up_to text most) valid)) (IsUtf8-from_is_utf8 _ valid)
      | inr other ↦ subst (λ n. IsUtf8 (take n text)) (sym (cond-false _ (suc most) (valid_len_up_to text most) other)) (valid_front text most)
    ]

-- and no longer one is
valid_longest : (text : List ℕ) (most n : ℕ) → n ≤ most → IsUtf8 (take n text) → n ≤ valid_len_up_to text most
valid_longest text zero n within valid = within
valid_longest text (suc most) n within valid =
    elim (cases_Bool (is_utf8 (take (suc most) text))) [
      | inl whole ↦ subst (λ k. n ≤ k) (sym (cond-true _ (suc most) (valid_len_up_to text most) whole)) within
      | inr other ↦ subst (λ k. n ≤ k) (sym (cond-false _ (suc most) (valid_len_up_to text most) other))
          (valid_longest text most n (elim (cases_lt most n) [
            | inl above ↦ absurd (let e : n ≡ suc most = omega arith in true≢false (sym (is_utf8-from_IsUtf8 _ (subst (λ k. IsUtf8 (take k text)) e valid)) ∙ other))
            | inr below ↦ below
          ]) valid)
    ]

module _ (character : ℕ) (rest : List ℕ) (scalar : IsScalar character) where
  abbrev text : List ℕ
  text = encode_utf8 character ++ rest

  -- the front in UTF-8 has the character
  long : length (encode_utf8 character) ≤ utf8_valid_len text
  unfolding utf8_valid_len
  long =
      valid_longest text (length text) (length (encode_utf8 character)) (omega (arith, length-append (encode_utf8 character) rest))
      (subst IsUtf8 (sym (take-append_seam (encode_utf8 character) rest)) (IsUtf8-encode character scalar))

  valid : IsUtf8 (take (utf8_valid_len text) text)
  unfolding utf8_valid_len
  valid = valid_front text (length text)

  begins : Some character ≡ slice_get (chars (take (utf8_valid_len text) text)) 0
  begins =
      let k = utf8_valid_len text - length (encode_utf8 character) in
      let n : utf8_valid_len text ≡ length (encode_utf8 character) + k = omega (arith, long) in
      let front = ap (λ n. take n text) n ∙ take-append-add (encode_utf8 character) rest k in
      ap (λ characters. slice_get characters 0) (sym (chars_past_char (take (utf8_valid_len text) text) (take k rest) character valid front))

  -- the first character of a text that begins with one
  pub first_character-encoded : first_character text ≡ Some (character, rest)
  first_character-encoded =
      let n = utf8_valid_len text in
      let found = first_character-Some text (take n text) (drop n text) (sym (take-append-drop n text)) (length-take-le n text (utf8_valid_len_le text)) character begins in
      let behind : drop (len_utf8 character) text ≡ rest = ap (λ n. drop n text) (sym (length-encode character)) ∙ drop-append_seam (encode_utf8 character) rest in
      found ∙ ap (λ rest. Some (character, rest)) behind

-- a bracket at once
number_in_brackets-none : (rest : List ℕ) → number_in_brackets (93 ∷ rest) ≡ None
unfolding hexadecimal_of
number_in_brackets-none rest = rw (lt-ltb 0 (suc (length rest)) (omega arith)) refl

-- a character and a bracket aren't a number in brackets
number_of-none : (text : List ℕ) (character : ℕ) (rest : List ℕ) → text ≡ encode_utf8 character ++ 93 ∷ rest → number_of text ≡ None
number_of-none [] character rest whole = refl
number_of-none (byte ∷ others) character rest whole =
    elim (cases_Bool (byte == 35)) [
      | inl is ↦
          let hash : byte ≡ 35 = grind (arith, nat_tests) in
          let same = char_from_byte (byte ∷ others) (93 ∷ rest) character whole (omega arith) (omega arith) in
          let one = encode_ascii character (omega arith) in
          let behind : others ≡ 93 ∷ rest = cc (ap (λ front. front ++ 93 ∷ rest) one) in
          cond-true _ _ _ is ∙ ap number_in_brackets behind ∙ number_in_brackets-none rest
      | inr other ↦ cond-false _ _ _ other
    ]

-- the key of a character in brackets
pub key_of-encoded : (character : ℕ) (rest : List ℕ) → IsScalar character → key_of (encode_utf8 character ++ 93 ∷ rest) ≡ Ok character
key_of-encoded character rest scalar =
    rw (number_of-none (encode_utf8 character ++ 93 ∷ rest) character rest refl, first_character-encoded character (93 ∷ rest) scalar) refl
