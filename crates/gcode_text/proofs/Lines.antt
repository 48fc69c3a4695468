-- A line that is written, read back: what stands outside its comments, its words, and its block.
use Rattle.std.proofs.Common.{◌≡◌, ℕ, ◌*◌, ◌≤◌, Bool, true, false, cond, eqb, leb, Some, List, [], ◌∷◌, ◌++◌, length, ap, ◌∙◌, refl, arith, length-append}
use Rattle.std.specs.List.{AllByRecursion, flat_map, list_all}
use Rattle.std.proofs.lemmas.Bool.{and_from, and_parts, le-leb, le-ltb, lt-leb, ne_eqb}
use Rattle.std.proofs.lemmas.Bool.Decides.{nat_tests}
use Rattle.std.proofs.lemmas.List.Elements.{recursion_from_All}
use Rattle.std.proofs.lemmas.List.Folds.{list_all-append}
use Rattle.grid_num.specs.declared.units.Units.{Units}
use Rattle.gcode_text.specs.Grammar.{Word, cut_number, is_number_byte, outside_comments}
use Rattle.gcode_text.specs.Moves.{is_percent, line_block}
use Rattle.gcode_text.specs.Written.{WrittenLine, Note, Words, IsWord, IsWritten, block_of_line, is_note_byte, line_text, word_text, words_text}

-- ---- bytes
-- no control character
abbrev pub is_visible : ℕ → Bool
is_visible byte = leb 32 byte

-- a byte that stands outside comments as it is
record IsPlain (byte : ℕ) : Type 0 where
  low : 43 ≤ byte
  high : byte ≤ 90
  other : byte ≡ 59 → ⊥

IsPlain-number : (byte : ℕ) → is_number_byte byte ≡ true → IsPlain byte
IsPlain-number byte is =
    record { low = grind (arith, nat_tests); high = grind (arith, nat_tests); other = λ e. grind (arith, nat_tests) }

letter_apart : (letter : ℕ) → 65 ≤ letter → is_number_byte letter ≡ false
letter_apart letter low = grind (arith, nat_tests)

-- of the first byte, and of the others
pub all_parts : (p : ℕ → Bool) (byte : ℕ) (bytes : List ℕ) → list_all p (byte ∷ bytes) ≡ true → (p byte ≡ true) × (list_all p bytes ≡ true)
all_parts p byte bytes all = and_parts _ _ all

all_weaker : (p q : ℕ → Bool) → ((byte : ℕ) → p byte ≡ true → q byte ≡ true) → (bytes : List ℕ) → list_all p bytes ≡ true → list_all q bytes ≡ true
all_weaker p q weaker [] all = refl
all_weaker p q weaker (byte ∷ bytes) all =
    let parts = all_parts p byte bytes all in
    and_from _ _ (weaker byte parts.0) (all_weaker p q weaker bytes parts.1)

-- ---- outside comments
takes_plain : (byte : ℕ) (rest outside : List ℕ) → IsPlain byte → outside_comments false rest ≡ Some outside → outside_comments false (byte ∷ rest) ≡ Some (byte ∷ outside)
takes_plain byte rest outside plain is =
    let low = plain.low in
    let high = plain.high in
    rw (ne_eqb byte 40 (λ e. omega arith), ne_eqb byte 59 plain.other, ne_eqb byte 32 (λ e. omega arith), ne_eqb byte 9 (λ e. omega arith), lt-leb 97 byte (omega arith), is) refl

takes_number : (number rest outside : List ℕ) → list_all is_number_byte number ≡ true → outside_comments false rest ≡ Some outside → outside_comments false (number ++ rest) ≡ Some (number ++ outside)
takes_number [] rest outside all is = is
takes_number (byte ∷ number) rest outside all is =
    let parts = all_parts is_number_byte byte number all in
    takes_plain byte (number ++ rest) (number ++ outside) (IsPlain-number byte parts.0) (takes_number number rest outside parts.1 is)

-- words behind others on their line, each with a space before it
abbrev more_text : List Word → List ℕ
more_text words = flat_map (λ next. 32 ∷ word_text next) words

outside_more : (words : List Word) → AllByRecursion IsWord words → outside_comments false (more_text words) ≡ Some (flat_map word_text words)
outside_more [] all = refl
outside_more (word ∷ words) all =
    let low = all.0.low in
    let plain : IsPlain word.letter = record { low = omega arith; high = all.0.high; other = λ e. omega arith } in
    let number = takes_number word.number (more_text words) (flat_map word_text words) all.0.number (outside_more words all.1) in
    takes_plain word.letter (word.number ++ more_text words) (word.number ++ flat_map word_text words) plain number

-- a note, from behind its '(' on
outside_note : (note : List ℕ) → list_all is_note_byte note ≡ true → outside_comments true (note ++ 41 ∷ []) ≡ Some []
outside_note [] all = refl
outside_note (byte ∷ note) all =
    let parts = all_parts is_note_byte byte note all in
    let stays : eqb byte 41 ≡ false = grind (arith, nat_tests, parts.0) in
    ap (λ ends. outside_comments (cond ends false true) (note ++ 41 ∷ [])) stays ∙ outside_note note parts.1

-- ---- words
cut_behind : (number rest : List ℕ) (words : List Word) → list_all is_number_byte number ≡ true → cut_number rest ≡ ([], words) → cut_number (number ++ rest) ≡ (number, words)
cut_behind [] rest words all is = is
cut_behind (byte ∷ number) rest words all is =
    let parts = all_parts is_number_byte byte number all in
    rw (parts.0, cut_behind number rest words parts.1 is) refl

cut_joined : (words : List Word) → AllByRecursion IsWord words → cut_number (flat_map word_text words) ≡ ([], words)
cut_joined [] all = refl
cut_joined (word ∷ words) all =
    rw (letter_apart word.letter all.0.low, cut_behind word.number (flat_map word_text words) words all.0.number (cut_joined words all.1)) refl

percent_apart : (byte : ℕ) (rest : List ℕ) → 65 ≤ byte → is_percent (byte ∷ rest) ≡ false
percent_apart byte [] low = ne_eqb byte 37 (λ e. omega arith)
percent_apart byte (next ∷ rest) low = refl

-- ---- lines
length_more : (words : List Word) → AllByRecursion IsWord words → length (more_text words) ≤ 42 * length words
length_more [] all = omega arith
length_more (word ∷ words) all =
    omega (arith, length-append word.number (more_text words), all.0.short, length_more words all.1)

pub line_block-line_text : (units : Units) (line : WrittenLine) → IsWritten line → line_block units (line_text line) ≡ block_of_line units line
line_block-line_text units (Note note) is =
    let fits : length (40 ∷ (note ++ 41 ∷ [])) ≤ 1024 = omega (arith, length-append note (41 ∷ []), is.short) in
    rw (le-ltb _ _ fits, outside_note note is.bytes) refl
line_block-line_text units (Words []) is = refl
line_block-line_text units (Words (word ∷ words)) is =
    let all = recursion_from_All IsWord (word ∷ words) is.0 in
    let joined = flat_map word_text words in
    let fits : length (words_text (word ∷ words)) ≤ 1024 = omega (arith, length_more (word ∷ words) all, is.1) in
    rw (le-ltb _ _ fits, outside_more (word ∷ words) all, percent_apart word.letter (word.number ++ joined) all.0.low, cut_behind word.number joined words all.0.number (cut_joined words all.1)) refl

visible_number : (number rest : List ℕ) → list_all is_number_byte number ≡ true → list_all is_visible rest ≡ true → list_all is_visible (number ++ rest) ≡ true
visible_number number rest all behind =
    list_all-append is_visible number rest ∙ and_from _ _ (all_weaker is_number_byte is_visible (λ byte is. le-leb _ _ (omega (arith, (IsPlain-number byte is).low))) number all) behind

visible_more : (words : List Word) → AllByRecursion IsWord words → list_all is_visible (more_text words) ≡ true
visible_more [] all = refl
visible_more (word ∷ words) all =
    and_from _ _ (le-leb _ _ (omega (arith, all.0.low))) (visible_number word.number (more_text words) all.0.number (visible_more words all.1))

-- no control character stands in a line
pub visible_line : (line : WrittenLine) → IsWritten line → list_all is_visible (line_text line) ≡ true
visible_line (Note note) is =
    list_all-append is_visible note (41 ∷ []) ∙ and_from _ _ (all_weaker is_note_byte is_visible (λ byte is. (and_parts _ _ is).0) note is.bytes) refl
visible_line (Words []) is = refl
visible_line (Words (word ∷ words)) is = visible_more (word ∷ words) (recursion_from_All IsWord (word ∷ words) is.0)
