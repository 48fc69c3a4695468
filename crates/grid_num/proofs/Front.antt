-- A number at the front of a text, by the runs of digits before and behind its point.
use Rattle.std.proofs.Common.{◌≡◌, ℕ, suc, ◌+◌, ◌-◌, ◌<◌, ◌≤◌, Bool, true, List, [], ◌∷◌, ◌++◌, length, get_or, take, drop, Ok, sym, ap, ◌∙◌, refl, arith}
use Rattle.std.specs.Char.{is_ascii_digit}
use Rattle.std.specs.List.{list_all}
use Rattle.std.specs.Str.{all_ascii_digits}
use Rattle.std.specs.Str.Parse.{digits_value_after}
use Rattle.std.proofs.Math.Seq.{take-append-add}
use Rattle.std.proofs.lemmas.Bool.{and_from, and_parts}
use Rattle.std.proofs.lemmas.Bool.Decides.{nat_tests}
use Rattle.std.proofs.lemmas.Grind.{common_steps}
use Rattle.std.proofs.lemmas.List.{drop_more, length-take-le, take-append-drop}
use Rattle.std.proofs.lemmas.List.Folds.{list_all-append}
use Rattle.grid_num.specs.Decimal.{unsigned_decimal}
use Rattle.grid_num.specs.Front.{is_number_byte}
use Rattle.grid_num.proofs.Points.{cut_behind, cut_nowhere, decimal_by-short}

-- digits are bytes of a number
digits_alone : (digits : List ℕ) → all_ascii_digits digits ≡ true → list_all is_number_byte digits ≡ true
digits_alone [] all = refl
digits_alone (digit ∷ digits) all =
    let parts = and_parts (is_ascii_digit digit) (all_ascii_digits digits) all in
    let here : is_number_byte digit ≡ true = grind (arith, nat_tests, parts.0) in
    and_from (is_number_byte digit) (list_all is_number_byte digits) here (digits_alone digits parts.1)

-- what a text writes, and that its bytes are those of a number
pub record Writes (text : List ℕ) (negative : Bool) (digits places : ℕ) : Type 0 where
  pub value : unsigned_decimal negative text ≡ Ok (record { negative = negative; digits = digits; places = places })
  pub bytes : list_all is_number_byte text ≡ true

pub Writes-whole : (negative : Bool) (whole : List ℕ) → all_ascii_digits whole ≡ true → 1 ≤ length whole → length whole ≤ 27 → Writes whole negative (digits_value_after 10 0 whole) 0
Writes-whole negative whole all some few =
    record {
      value = cut_nowhere negative whole all ∙ decimal_by-short negative whole [] all refl (omega arith) (omega arith);
      bytes = digits_alone whole all;
    }

pub Writes-point : (negative : Bool) (whole fraction : List ℕ) (places : ℕ) → length fraction ≡ places → all_ascii_digits whole ≡ true → all_ascii_digits fraction ≡ true → 1 ≤ length whole + places → length whole + places ≤ 27 → Writes (whole ++ 46 ∷ fraction) negative (digits_value_after 10 (digits_value_after 10 0 whole) fraction) places
Writes-point negative whole fraction places size in_whole in_fraction some few =
    record {
      value = cut_behind negative whole fraction in_whole ∙ decimal_by-short negative whole fraction in_whole in_fraction (omega (arith, size)) (omega (arith, size)) ∙ ap (λ n. Ok (record { negative = negative; digits = digits_value_after 10 (digits_value_after 10 0 whole) fraction; places = n })) size;
      bytes = list_all-append is_number_byte whole (46 ∷ fraction) ∙ and_from (list_all is_number_byte whole) (list_all is_number_byte (46 ∷ fraction)) (digits_alone whole in_whole) (digits_alone fraction in_fraction);
    }

-- a text with a point at a place, as far as some bytes behind it
pub take_past : (text : List ℕ) (n m : ℕ) → n < length text → get_or text n 0 ≡ 46 → take (n + 1 + m) text ≡ take n text ++ 46 ∷ take m (take (length text - (n + 1)) (drop (n + 1) text))
take_past text n m inside point =
    let rest = drop (n + 1) text in
    let cut : take n text ++ 46 ∷ rest ≡ text =
    ap (λ byte. take n text ++ byte ∷ rest) (sym point) ∙ ap (λ ys. take n text ++ ys) (sym (drop_more text n 0 inside)) ∙ take-append-drop n text in
    let size : length (take n text) ≡ n = length-take-le n text (omega arith) in
    let count : n + 1 + m ≡ length (take n text) + suc m = omega (arith, size) in
    let all : take (length text - (n + 1)) rest ≡ rest = grind (arith, common_steps) in
    ap (take (n + 1 + m)) (sym cut) ∙ ap (λ k. take k (take n text ++ 46 ∷ rest)) count ∙ take-append-add (take n text) (46 ∷ rest) (suc m) ∙ ap (λ r. take n text ++ 46 ∷ take m r) (sym all)

-- a text with a minus in front, as far as some bytes behind it
pub behind_minus : (text : List ℕ) (len : ℕ) → 1 ≤ length text → get_or text 0 0 ≡ 45 → take (len + 1) text ≡ 45 ∷ take len (take (length text - 1) (drop 1 text))
behind_minus [] len some is = absurd (omega arith)
behind_minus (byte ∷ rest) len some is =
    let all : take (length (byte ∷ rest) - 1) (drop 1 (byte ∷ rest)) ≡ rest = grind (arith, common_steps) in
    let more : len + 1 ≡ suc len = omega arith in
    ap (λ n. take n (byte ∷ rest)) more ∙ ap (λ first. first ∷ take len rest) is ∙ ap (λ r. 45 ∷ take len r) (sym all)
