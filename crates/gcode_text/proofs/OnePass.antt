-- A line judged in one pass: a word taken from the front of what is left of it.
use Rattle.std.proofs.Common.{◌≡◌, ℕ, ◌-◌, ◌≤◌, Bool, true, false, cond, eqb, Option, Some, None, List, [], ◌∷◌, ◌++◌, length, get_or, take, drop, Ok, sym, ap, ◌∙◌, refl, arith}
use Rattle.std.specs.Prelude.{⊤, option_map, codes}
use Rattle.std.specs.List.{list_all}
use Rattle.std.proofs.lemmas.Bool.{and_parts}
use Rattle.std.proofs.lemmas.Bool.Decides.{nat_tests}
use Rattle.std.proofs.lemmas.List.{take-append-drop}
use Rattle.grid_num.specs.Decimal.{PlainNumber, decimal_number}
use Rattle.grid_num.specs.declared.units.Units.{Units}
use Rattle.text_lines.specs.Pieces.{is_blank}
use Rattle.gcode_text.specs.Grammar.{capital, cut_number, empty_block, is_among, is_number_byte, judge_g, judge_m, judge_other, judge_word, judge_words, line_words, outside_comments}
use Rattle.gcode_text.specs.Moves.{is_percent, words_block}
use Rattle.gcode_text.specs.Plain.{judge_text, starts_word}
use Rattle.gcode_text.specs.declared.block.Block.{Block}
use Rattle.gcode_text.proofs.Cutting.{rest_is, tail_is}
use Rattle.gcode_text.proofs.Outside.{then_outside, then_outside_none}

-- a byte that stands as it is outside comments
record IsPlain (byte : ℕ) : Type 0 where
  pub opens : eqb byte 40 ≡ false
  pub ends : eqb byte 59 ≡ false
  pub blank : is_blank byte ≡ false
  pub same : capital byte ≡ byte

IsPlain-from : (byte : ℕ) → 43 ≤ byte → byte ≤ 90 → (byte ≡ 59 → ⊥) → IsPlain byte
IsPlain-from byte low high other =
    record { opens = grind (arith, nat_tests); ends = grind (arith, nat_tests); blank = grind (arith, nat_tests); same = grind (arith, nat_tests) }

IsPlain-number : (byte : ℕ) → is_number_byte byte ≡ true → IsPlain byte
IsPlain-number byte is =
    let low : 43 ≤ byte = grind (arith, nat_tests) in
    let high : byte ≤ 57 = grind (arith, nat_tests) in
    IsPlain-from byte low (omega arith) (λ end. omega arith)

IsPlain-letter : (byte : ℕ) → 65 ≤ byte → byte ≤ 90 → IsPlain byte
IsPlain-letter byte low high = IsPlain-from byte (omega arith) high (λ end. omega arith)

outside-plain : (byte : ℕ) (rest : List ℕ) → IsPlain byte → outside_comments false (byte ∷ rest) ≡ option_map (λ outside. byte ∷ outside) (outside_comments false rest)
outside-plain byte rest is = rw (is.opens, is.ends, is.blank, is.same) refl

outside-front : (byte : ℕ) (front : List ℕ) (later : Option (List ℕ)) → option_map (λ outside. byte ∷ outside) (then_outside front later) ≡ then_outside (byte ∷ front) later
outside-front byte front None = refl
outside-front byte front (Some later) = refl

-- the characters of a number stand there as they are
outside-number : (number rest : List ℕ) → list_all is_number_byte number ≡ true → outside_comments false (number ++ rest) ≡ then_outside number (outside_comments false rest)
outside-number [] rest all = sym (then_outside_none (outside_comments false rest))
outside-number (byte ∷ number) rest all =
    let parts = and_parts (is_number_byte byte) (list_all is_number_byte number) all in
    outside-plain byte (number ++ rest) (IsPlain-number byte parts.0) ∙ ap (option_map (λ outside. byte ∷ outside)) (outside-number number rest parts.1) ∙ outside-front byte number (outside_comments false rest)

-- no character of a number stands in front
abbrev EndsNumber : Option (List ℕ) → Type 0
EndsNumber None = ⊤
EndsNumber (Some outside) = cut_number outside ≡ ([], line_words outside)

EndsNumber-letter : (letter : ℕ) (later : Option (List ℕ)) → is_number_byte letter ≡ false → EndsNumber (option_map (λ outside. letter ∷ outside) later)
EndsNumber-letter letter None other = tt
EndsNumber-letter letter (Some outside) other = rw other refl

EndsNumber-starts_word : (rest : List ℕ) → starts_word rest ≡ true → EndsNumber (outside_comments false rest)
EndsNumber-starts_word [] starts = refl
EndsNumber-starts_word (letter ∷ rest) starts =
    let low : 65 ≤ letter = grind (arith, nat_tests) in
    let high : letter ≤ 90 = grind (arith, nat_tests) in
    let other : is_number_byte letter ≡ false = grind (arith, nat_tests) in
    rw (outside-plain letter rest (IsPlain-letter letter low high)) (EndsNumber-letter letter (outside_comments false rest) other)

cut-number : (number outside : List ℕ) → list_all is_number_byte number ≡ true → cut_number outside ≡ ([], line_words outside) → cut_number (number ++ outside) ≡ (number, line_words outside)
cut-number [] outside all ends = ends
cut-number (byte ∷ number) outside all ends =
    let parts = and_parts (is_number_byte byte) (list_all is_number_byte number) all in
    rw (parts.0, cut-number number outside parts.1 ends) refl

judge_text-word : (units : Units) (block next : Block) (letter : ℕ) (number : List ℕ) (later : Option (List ℕ)) → list_all is_number_byte number ≡ true → EndsNumber later → judge_word units block (record { letter = letter; number = number }) ≡ Ok next → judge_text units block (then_outside (letter ∷ number) later) ≡ judge_text units next later
judge_text-word units block next letter number None all ends word = refl
judge_text-word units block next letter number (Some outside) all ends word = rw (cut-number number outside all ends, word) refl

-- a letter of the profile
letter_low : (letter : ℕ) → is_among (codes "NGMXYZFSP") letter ≡ true → 65 ≤ letter
letter_low letter among = grind (arith, nat_tests)

letter_high : (letter : ℕ) → is_among (codes "NGMXYZFSP") letter ≡ true → letter ≤ 90
letter_high letter among = grind (arith, nat_tests)

-- the word in front, whose number takes so many bytes, and what stands behind it
pub judge_text-step : (units : Units) (block next : Block) (text : List ℕ) (len : ℕ) (number : PlainNumber) (rest : List ℕ) → let behind = take (length text - 1) (drop 1 text) in let letter = get_or text 0 0 in 1 ≤ length text → is_among (codes "NGMXYZFSP") letter ≡ true → decimal_number (take len behind) ≡ Ok number → list_all is_number_byte (take len behind) ≡ true → outside_comments false (take (length behind - len) (drop len behind)) ≡ outside_comments false rest → starts_word rest ≡ true → cond (eqb letter 71) (judge_g units block number) (cond (eqb letter 77) (judge_m block number) (judge_other units block letter number)) ≡ Ok next → judge_text units block (outside_comments false text) ≡ judge_text units next (outside_comments false rest)
judge_text-step units block next [] len number rest some among value bytes same starts judged = absurd (omega arith)
judge_text-step units block next (letter ∷ tail) len number rest some among value bytes same starts judged =
    let tail_of = tail_is letter tail in
    let behind_of = rest_is tail len in
    let word : judge_word units block (record { letter = letter; number = take len tail }) ≡ Ok next = rw (among, ap (λ t. decimal_number (take len t)) (sym tail_of) ∙ value) judged in
    let all : list_all is_number_byte (take len tail) ≡ true = ap (λ t. list_all is_number_byte (take len t)) (sym tail_of) ∙ bytes in
    let later : outside_comments false (drop len tail) ≡ outside_comments false rest =
    ap (outside_comments false) (sym behind_of) ∙ ap (λ t. outside_comments false (take (length t - len) (drop len t))) (sym tail_of) ∙ same in
    let cut : outside_comments false tail ≡ then_outside (take len tail) (outside_comments false rest) =
    ap (outside_comments false) (sym (take-append-drop len tail)) ∙ outside-number (take len tail) (drop len tail) all ∙ ap (then_outside (take len tail)) later in
    let front : outside_comments false (letter ∷ tail) ≡ then_outside (letter ∷ take len tail) (outside_comments false rest) =
    outside-plain letter tail (IsPlain-letter letter (letter_low letter among) (letter_high letter among)) ∙ ap (option_map (λ outside. letter ∷ outside)) cut ∙ outside-front letter (take len tail) (outside_comments false rest) in
    ap (judge_text units block) front ∙ judge_text-word units block next letter (take len tail) (outside_comments false rest) all (EndsNumber-starts_word rest starts) word

-- a '%' alone is no word
percent_refused : (units : Units) (block : Block) (outside : List ℕ) → is_percent outside ≡ true → judge_words units empty_block (line_words outside) ≡ Ok block → ⊥
percent_refused units block [] percent judged = absurd (cc)
percent_refused units block (byte ∷ []) percent judged =
    let is : byte ≡ 37 = grind (arith, nat_tests) in
    let word : judge_words units empty_block (line_words (37 ∷ [])) ≡ Ok block = ap (λ b. judge_words units empty_block (line_words (b ∷ []))) (sym is) ∙ judged in
    absurd (cc)
percent_refused units block (byte ∷ next ∷ rest) percent judged = absurd (cc)

-- a line without a fault among its words
pub words_block-judged : (units : Units) (block : Block) (outside : Option (List ℕ)) → judge_text units empty_block outside ≡ Ok block → words_block units outside ≡ Ok block
words_block-judged units block None judged = judged
words_block-judged units block (Some outside) judged = by_percent (is_percent outside) refl
  where
    by_percent : (percent : Bool) → is_percent outside ≡ percent → cond percent (Ok empty_block) (judge_words units empty_block (line_words outside)) ≡ Ok block
    by_percent true is = absurd (percent_refused units block outside is judged)
    by_percent false is = judged

-- nothing is left
pub judge_text-end : (units : Units) (block : Block) (rest : List ℕ) → length rest ≡ 0 → judge_text units block (outside_comments false rest) ≡ Ok block
judge_text-end units block [] none = refl
judge_text-end units block (byte ∷ rest) none = absurd (omega arith)
