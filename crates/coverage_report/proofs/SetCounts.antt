-- How many bits of words are 1, bit by bit and word by word.
use Rattle.std.proofs.Common.{◌≡◌, ◌≢◌, ℕ, zero, suc, ◌+◌, ◌-◌, ◌*◌, ◌/◌, ◌%◌, ◌^◌, ◌<◌, ◌≤◌, Bool, true, false, ◌==◌, List, [], ◌∷◌, length, get_or, drop, sum_by, div-one, zero-add, if◌then◌else◌, ℤ, pos, ◌+ℤ◌, refl, sym, ap, ap₂, le_refl, ◌∙◌, arith, inl, inr}
use Rattle.std.specs.Int.{bit_at}
use Rattle.std.specs.Int.RustNames.{count_ones}
use Rattle.std.specs.Int.Count.{ones_step}
use Rattle.std.proofs.lemmas.Bool.{cases_eq, cases_lt}
use Rattle.std.proofs.lemmas.Bool.Decides.{nat_tests}
use Rattle.std.proofs.lemmas.List.{drop_all, get_or_past}
use Rattle.std.proofs.lemmas.List.Sums.{sum_by-drop_more}
use Rattle.std.proofs.lemmas.Nat.{ones_le_self, shr-shr}
use Rattle.std.proofs.lemmas.Nat.Bits.{bit_at-lt}
use Rattle.evenodd_region.specs.RowBits.{IsSetIn, bit_in}
use Rattle.coverage_report.specs.Rows.{PointRow, is_set_in, set_among, set_points}
use Rattle.coverage_report.specs.Runs.{row_points}

-- ---- from a bit of a word on

no_ones : count_ones 0 ≡ 0
no_ones = let few = ones_le_self 0 in omega arith

-- how many bits are 1 from the bit k of the word w on
abbrev ones_at : List ℕ → (w k : ℕ) → ℕ
ones_at words w k = count_ones (get_or words w 0 / 2 ^ k) + sum_by count_ones (drop (w + 1) words)

next_bit : (words : List ℕ) (w k : ℕ) → ones_at words w k ≡ bit_at (get_or words w 0) k + ones_at words w (k + 1)
next_bit words w k =
    let v = get_or words w 0 in
    let step : count_ones (v / 2 ^ k) ≡ bit_at v k + count_ones (v / 2 ^ (k + 1)) = ones_step (v / 2 ^ k) ∙ ap (λ n. bit_at v k + count_ones n) (shr-shr v k 1) in
    omega arith

begin_word : (words : List ℕ) (w : ℕ) → sum_by count_ones (drop w words) ≡ ones_at words w 0
begin_word words w =
    let whole : count_ones (get_or words w 0) + sum_by count_ones (drop (w + 1) words) ≡ ones_at words w 0 =
    ap (λ v. count_ones v + sum_by count_ones (drop (w + 1) words)) (sym (div-one (get_or words w 0))) in
    elim (cases_lt w (length words)) [
      | inl within ↦ sum_by-drop_more count_ones words w 0 within ∙ whole
      | inr past ↦
          ap (sum_by count_ones) (drop_all w words past)
          ∙ sym (ap₂ (λ v ws. count_ones v + sum_by count_ones ws) (get_or_past words w 0 past) (drop_all (w + 1) words (omega arith)) ∙ omega (arith, no_ones)) ∙ whole
    ]

end_word : (words : List ℕ) (w : ℕ) → get_or words w 0 < 2 ^ 64 → ones_at words w 64 ≡ ones_at words (w + 1) 0
end_word words w fits =
    let v = get_or words w 0 in
    let none : v / 2 ^ 64 ≡ 0 = omega arith in
    ap (λ n. count_ones n + sum_by count_ones (drop (w + 1) words)) none ∙ ap (λ n. n + sum_by count_ones (drop (w + 1) words)) no_ones ∙ zero-add _
    ∙ begin_word words (w + 1)

-- ---- from a bit of all words on

-- how many are 1 from the bit i on
abbrev ones_on : List ℕ → ℕ → ℕ
ones_on words i = ones_at words (i / 64) (i % 64)

next_place : (words : List ℕ) → ((j : ℕ) → get_or words j 0 < 2 ^ 64) → (i : ℕ) → ones_at words (i / 64) (i % 64 + 1) ≡ ones_on words (i + 1)
next_place words fits i = elim (cases_eq (i % 64) 63) [
  | inl last ↦
      let past : i % 64 + 1 ≡ 64 = omega arith in
      let word : i / 64 + 1 ≡ (i + 1) / 64 = omega arith in
      let lowest : 0 ≡ (i + 1) % 64 = omega arith in
      ap (ones_at words (i / 64)) past ∙ end_word words (i / 64) (fits (i / 64)) ∙ ap₂ (ones_at words) word lowest
  | inr inner ↦
      let word : i / 64 ≡ (i + 1) / 64 = omega arith in
      let next : i % 64 + 1 ≡ (i + 1) % 64 = omega arith in
      ap₂ (ones_at words) word next
]

ones_more : (words : List ℕ) → ((j : ℕ) → get_or words j 0 < 2 ^ 64) → (i : ℕ) → ones_on words i ≡ bit_in words i + ones_on words (i + 1)
ones_more words fits i = next_bit words (i / 64) (i % 64) ∙ ap (λ n. bit_in words i + n) (next_place words fits i)

-- how many are 1 of so many bits from the bit i on
abbrev set_count : List ℕ → (i n : ℕ) → ℕ
set_count words i zero = 0
set_count words i (suc n) = bit_in words i + set_count words (i + 1) n

ones_split : (words : List ℕ) → ((j : ℕ) → get_or words j 0 < 2 ^ 64) → (n i j : ℕ) → i + n ≡ j → ones_on words i ≡ set_count words i n + ones_on words j
ones_split words fits zero i j is = let same : i ≡ j = omega arith in ap (ones_on words) same ∙ sym (zero-add _)
ones_split words fits (suc n) i j is = let first = ones_more words fits i in let rest = ones_split words fits n (i + 1) j (omega arith) in omega arith

none_set : (words : List ℕ) (n i : ℕ) → ((k : ℕ) → i ≤ k → bit_in words k ≡ 0) → set_count words i n ≡ 0
none_set words zero i none = refl
none_set words (suc n) i none = let first = none i (omega arith) in let rest = none_set words n (i + 1) (λ k high. none k (omega arith)) in omega arith

-- ---- the points of a row

length_taken : {A : Type 0} (bit : ℕ) (item : A) (items : List A) (n : ℕ) (test : Bool) → bit < 2 → (bit == 1) ≡ test → length items ≡ n
    → length (if test then item ∷ items else items) ≡ bit + n
length_taken bit item items n true few is same = grind (arith, nat_tests)
length_taken bit item items n false few is same = grind (arith, nat_tests)

length_set : {A : Type 0} (words : List ℕ) (items : List A) (i : ℕ) → length (set_among words i items) ≡ set_count words i (length items)
length_set words [] i = refl
length_set words (item ∷ items) i =
    length_taken (bit_in words i) item (set_among words (i + 1) items) (set_count words (i + 1) (length items)) (is_set_in words i) (bit_at-lt _ _) refl
    (length_set words items (i + 1))

length_row : (y x : ℤ) (pitch count : ℕ) → length (row_points y x pitch count) ≡ count
length_row y x pitch zero = refl
length_row y x pitch (suc count) = ap suc (length_row y (x +ℤ pos pitch) pitch count)

unset : (bit : ℕ) → bit < 2 → bit ≢ 1 → bit ≡ 0
unset bit few not_one = omega arith

none_past : (words : List ℕ) → ones_on words (64 * length words) ≡ 0
none_past words =
    let word : 64 * length words / 64 ≡ length words = omega arith in
    let lowest : 64 * length words % 64 ≡ 0 = omega arith in
    ap₂ (ones_at words) word lowest ∙ sym (begin_word words (length words)) ∙ ap (sum_by count_ones) (drop_all (length words) words (le_refl _))

pub set_points_counted : (words : List ℕ) (row : PointRow) → ((j : ℕ) → get_or words j 0 < 2 ^ 64) → row.count ≤ 64 * length words
    → ((i : ℕ) → IsSetIn words i → i < row.count)
    → sum_by count_ones words ≡ length (set_points words row)
set_points_counted words row fits room behind =
    let all = 64 * length words in
    let none : set_count words row.count (all - row.count) ≡ 0 =
    none_set words (all - row.count) row.count (λ k high. unset (bit_in words k) (bit_at-lt _ _) (λ set. let low : k < row.count = behind k set in absurd (omega arith))) in
    let first : ones_on words 0 ≡ set_count words 0 row.count + ones_on words row.count = ones_split words fits row.count 0 row.count (omega arith) in
    let rest : ones_on words row.count ≡ set_count words row.count (all - row.count) + ones_on words all = ones_split words fits (all - row.count) row.count all (omega arith) in
    let past : ones_on words all ≡ 0 = none_past words in
    let counted : length (set_points words row) ≡ set_count words 0 row.count =
    length_set words (row_points row.y row.x row.pitch row.count) 0 ∙ ap (set_count words 0) (length_row row.y row.x row.pitch row.count) in
    begin_word words 0 ∙ omega arith
