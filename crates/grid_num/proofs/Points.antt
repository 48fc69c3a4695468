-- Texts of digits with a point among, before or behind them, and the numbers that they write.
use Rattle.std.proofs.Common.{◌≡◌, ℕ, ◌+◌, ◌≤◌, Bool, true, false, not, cond, eqb, List, [], ◌∷◌, ◌++◌, length, take, drop, Ok, sym, ap, ◌∙◌, refl, arith, append_assoc, length-append}
use Rattle.std.specs.Char.{is_ascii_digit}
use Rattle.std.specs.List.{position_or_len, before_first, after_first}
use Rattle.std.specs.Str.{all_ascii_digits}
use Rattle.std.specs.Str.Parse.{digits_value_after}
use Rattle.std.proofs.Math.Seq.{take-length}
use Rattle.std.proofs.lemmas.Bool.{and_from, and_parts, le-leb, le-ltb}
use Rattle.std.proofs.lemmas.Bool.Decides.{nat_tests}
use Rattle.std.proofs.lemmas.List.{drop_all, drop_at, length_push, take_at}
use Rattle.grid_num.specs.Decimal.{counted_digits, decimal_by, unsigned_decimal}
use Rattle.grid_num.proofs.Runs.{all_ascii_digits-append, counted_digits-le, digits_value_after-append}

abbrev is_point : ℕ → Bool
is_point byte = eqb byte 46

no_point : (byte : ℕ) → is_ascii_digit byte ≡ true → is_point byte ≡ false
no_point byte digit = grind (arith, nat_tests)

point_behind : (digits rest : List ℕ) → all_ascii_digits digits ≡ true → position_or_len is_point (digits ++ 46 ∷ rest) ≡ length digits
point_behind [] rest all = refl
point_behind (byte ∷ digits) rest all =
    let parts = and_parts _ _ all in
    ap (λ b. cond (not b) (1 + position_or_len is_point (digits ++ 46 ∷ rest)) 0) (no_point byte parts.0) ∙ omega (arith, point_behind digits rest parts.1)

point_nowhere : (digits : List ℕ) → all_ascii_digits digits ≡ true → position_or_len is_point digits ≡ length digits
point_nowhere [] all = refl
point_nowhere (byte ∷ digits) all =
    let parts = and_parts _ _ all in
    ap (λ b. cond (not b) (1 + position_or_len is_point digits) 0) (no_point byte parts.0) ∙ omega (arith, point_nowhere digits parts.1)

-- digits alone
pub cut_nowhere : (negative : Bool) (digits : List ℕ) → all_ascii_digits digits ≡ true → unsigned_decimal negative digits ≡ decimal_by negative digits []
cut_nowhere negative digits all =
    let point = point_nowhere digits all in
    let before : before_first is_point digits ≡ digits = ap (λ i. take i digits) point ∙ take-length digits in
    let behind : after_first is_point digits ≡ [] = drop_all _ digits (omega (arith, point)) in
    ap (λ whole. decimal_by negative whole (after_first is_point digits)) before ∙ ap (decimal_by negative digits) behind

-- digits, a point and what stands behind it
pub cut_behind : (negative : Bool) (digits rest : List ℕ) → all_ascii_digits digits ≡ true → unsigned_decimal negative (digits ++ 46 ∷ rest) ≡ decimal_by negative digits rest
cut_behind negative digits rest all =
    let point = point_behind digits rest all in
    let end : length (digits ++ 46 ∷ []) ≡ position_or_len is_point (digits ++ 46 ∷ rest) + 1 = omega (arith, length_push digits 46, point) in
    let before : before_first is_point (digits ++ 46 ∷ rest) ≡ digits = take_at digits (46 ∷ rest) _ (sym point) in
    let behind : after_first is_point (digits ++ 46 ∷ rest) ≡ rest =
    ap (drop (position_or_len is_point (digits ++ 46 ∷ rest) + 1)) (sym (append_assoc digits (46 ∷ []) rest)) ∙ drop_at (digits ++ 46 ∷ []) rest _ end in
    ap (λ whole. decimal_by negative whole (after_first is_point (digits ++ 46 ∷ rest))) before ∙ ap (decimal_by negative digits) behind

-- some digits, and not too many
pub decimal_by-short : (negative : Bool) (whole fraction : List ℕ) → all_ascii_digits whole ≡ true → all_ascii_digits fraction ≡ true → 1 ≤ length whole + length fraction → length whole + length fraction ≤ 27 → decimal_by negative whole fraction ≡ Ok (record { negative = negative; digits = digits_value_after 10 (digits_value_after 10 0 whole) fraction; places = length fraction })
decimal_by-short negative whole fraction in_whole in_fraction some few =
    let all : all_ascii_digits (whole ++ fraction) ≡ true = all_ascii_digits-append whole fraction ∙ and_from _ _ in_whole in_fraction in
    let count : length (whole ++ fraction) ≡ length whole + length fraction = length-append whole fraction in
    let short : counted_digits (whole ++ fraction) ≤ 27 = omega (arith, count, counted_digits-le (whole ++ fraction)) in
    rw (le-leb 1 (length (whole ++ fraction)) (omega (arith, count)), all, le-ltb _ _ short, digits_value_after-append 0 whole fraction) refl
