-- A text cut behind its first word.
use Rattle.std.proofs.Common.{◌≡◌, ℕ, ◌+◌, ◌-◌, ◌≤◌, Bool, true, false, cond, List, [], ◌∷◌, length, get_or, take, drop, ap, ◌∙◌, refl, arith}
use Rattle.std.specs.List.{prefix_len}
use Rattle.std.proofs.lemmas.Grind.{common_steps}
use Rattle.gcode_text.specs.Grammar.{is_number_byte, cut_number, line_words}

-- the characters of a number at the front, and the words behind them
abbrev CutAt : List ℕ → ℕ → Type 0
CutAt text end = (cut_number text).0 ≡ take end text × (cut_number text).1 ≡ line_words (drop end text)

cut_by : (is_number : Bool) (byte : ℕ) (rest : List ℕ) (end : ℕ) → is_number_byte byte ≡ is_number → CutAt rest end → CutAt (byte ∷ rest) (cond is_number (1 + end) 0)
cut_by true byte rest end is tail =
    let first : take (1 + end) (byte ∷ rest) ≡ byte ∷ take end rest = grind (arith, common_steps) in
    let others : drop (1 + end) (byte ∷ rest) ≡ drop end rest = grind (arith, common_steps) in
    rw (is, first, others) (ap (λ number. byte ∷ number) tail.0, tail.1)
cut_by false byte rest end is tail = rw is (refl, refl)

cut_number_is : (text : List ℕ) → CutAt text (prefix_len is_number_byte text)
cut_number_is [] = (refl, refl)
cut_number_is (byte ∷ rest) = cut_by (is_number_byte byte) byte rest (prefix_len is_number_byte rest) refl (cut_number_is rest)

-- behind the first byte
pub tail_is : (letter : ℕ) (behind : List ℕ) → take (length (letter ∷ behind) - 1) (drop 1 (letter ∷ behind)) ≡ behind
tail_is letter behind = grind (arith, common_steps)

pub rest_is : (text : List ℕ) (end : ℕ) → take (length text - end) (drop end text) ≡ drop end text
rest_is text end = grind (arith, common_steps)

pub line_words_first : (text : List ℕ) (end : ℕ) → 1 ≤ length text → end ≡ prefix_len is_number_byte (take (length text - 1) (drop 1 text)) → let behind = take (length text - 1) (drop 1 text) in line_words text ≡ record { letter = get_or text 0 0; number = take end behind } ∷ line_words (take (length behind - end) (drop end behind))
line_words_first [] end some is = absurd (omega arith)
line_words_first (letter ∷ behind) end some is =
    let cut = cut_number_is behind in
    let end_is : end ≡ prefix_len is_number_byte behind = is ∙ ap (prefix_len is_number_byte) (tail_is letter behind) in
    rw (tail_is letter behind, rest_is behind end, end_is, cut.0, cut.1) refl
