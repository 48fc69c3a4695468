-- The text of a number of grid units, and the number that is read from it.
use Rattle.std.specs.Prelude.{decimal, unsigned_abs, negsuc}
use Rattle.std.proofs.Common.{◌≡◌, ℕ, zero, suc, ◌+◌, ◌*◌, ◌/◌, ◌%◌, ◌<◌, ◌≤◌, ◌^◌, Bool, true, false, cond, eqb, List, [], ◌∷◌, ◌++◌, length, get_or, drop, set, ℤ, pos, neg_ℤ, ◌*ℤ◌, Result, Ok, Err, sym, ap, ◌∙◌, refl, arith, length-append, lit<}
use Rattle.std.specs.Char.{is_ascii_digit, digit_value}
use Rattle.std.specs.Str.{all_ascii_digits}
use Rattle.std.specs.Str.Parse.{digits_value_after}
use Rattle.std.proofs.Math.Arith.{mod-mul}
use Rattle.std.proofs.Math.Nat.{div-div-eq-div-mul, div-le_self, div-one, mod-lt, mod-one, mul-div_cancel, mul-mod_left, mul_comm, pow-suc, pow-succ'}
use Rattle.std.proofs.lemmas.Bool.{and_from, and_parts, le-leb, ne_eqb}
use Rattle.std.proofs.lemmas.Bool.Decides.{nat_tests}
use Rattle.std.proofs.lemmas.Fmt.{decimal_digit, decimal_nonempty, decimal_step, digits_decimal, digits_value-decimal, length-decimal-le}
use Rattle.std.proofs.lemmas.Int.{ints}
use Rattle.std.proofs.lemmas.List.{append-nil, drop-set, drop_more}
use Rattle.std.proofs.lemmas.Str.Parse.{numerals_by_value, tells_all_ascii_digits}
use Rattle.grid_num.specs.Decimal.{PlainNumber, decimal_by, decimal_number, decimal_times, times_scale, unsigned_decimal}
use Rattle.grid_num.specs.declared.decimal.NumFault.{NumFault}
use Rattle.grid_num.specs.declared.decimal.NumFault.TheVariants.{OffGrid}
use Rattle.grid_num.specs.Written.{decimal_text, fraction_text, last_digits, size_text, zeros_of}
use Rattle.grid_num.proofs.Points.{cut_behind, cut_nowhere, decimal_by-short}
use Rattle.grid_num.proofs.Powers.{power_pos}
use Rattle.grid_num.proofs.Runs.{IsDigit-from_test, all_ascii_digits-append, digits_value_after-append}

-- ---- the digits
decimal_all : (n : ℕ) → n < 2 ^ 64 → all_ascii_digits (decimal n) ≡ true
decimal_all n fits = digits_decimal (numerals_by_value (λ digits. all_ascii_digits digits ≡ true) tells_all_ascii_digits) n fits

decimal_value : (n : ℕ) → n < 2 ^ 64 → digits_value_after 10 0 (decimal n) ≡ n
decimal_value n fits = digits_value-decimal (numerals_by_value (λ digits. all_ascii_digits digits ≡ true) tells_all_ascii_digits) n fits

last_is_digit : (n : ℕ) → is_ascii_digit (48 + n % 10) ≡ true
last_is_digit n = grind (arith, nat_tests)

last_digits_all : (places n : ℕ) → all_ascii_digits (last_digits places n) ≡ true
last_digits_all zero n = refl
last_digits_all (suc places) n =
    all_ascii_digits-append (last_digits places (n / 10)) ((48 + n % 10) ∷ []) ∙ and_from _ _ (last_digits_all places (n / 10)) (and_from _ _ (last_is_digit n) refl)

pub length-last_digits : (places n : ℕ) → length (last_digits places n) ≡ places
length-last_digits zero n = refl
length-last_digits (suc places) n =
    omega (arith, length-append (last_digits places (n / 10)) ((48 + n % 10) ∷ []), length-last_digits places (n / 10))

-- what stands before the last digits, and they, make the number
value_with_last : (places n : ℕ) → digits_value_after 10 (n / 10 ^ places) (last_digits places n) ≡ n
value_with_last zero n = div-one n
value_with_last (suc places) n =
    let front = digits_value_after-append (n / 10 ^ suc places) (last_digits places (n / 10)) ((48 + n % 10) ∷ []) in
    let before : n / 10 ^ suc places ≡ n / 10 / 10 ^ places = ap (λ d. n / d) (pow-succ' 10 places) ∙ sym (div-div-eq-div-mul n 10 (10 ^ places)) in
    let value = (IsDigit-from_test (48 + n % 10) (last_is_digit n)).value in
    front ∙ ap (λ m. digits_value_after 10 m (last_digits places (n / 10)) * 10 + digit_value (48 + n % 10)) before ∙ ap (λ m. m * 10 + digit_value (48 + n % 10)) (value_with_last places (n / 10)) ∙ omega (arith, value)

-- ---- the point
cut_at_point : (negative : Bool) (digits : List ℕ) (places n : ℕ) → all_ascii_digits digits ≡ true → unsigned_decimal negative (digits ++ fraction_text places n) ≡ decimal_by negative digits (last_digits places n)
cut_at_point negative digits zero n all =
    ap (unsigned_decimal negative) (append-nil digits) ∙ cut_nowhere negative digits all
cut_at_point negative digits (suc places) n all = cut_behind negative digits (last_digits (suc places) n) all

-- ---- reading it back
abbrev number_with : Bool → ℕ → ℕ → PlainNumber
number_with negative n places = record { negative = negative; digits = n; places = places }

decimal_by-digits : (negative : Bool) (places n : ℕ) → places ≤ 6 → n < 2 ^ 64 → decimal_by negative (decimal (n / 10 ^ places)) (last_digits places n) ≡ Ok (number_with negative n places)
decimal_by-digits negative places n few fits =
    let quotient : n / 10 ^ places < 2 ^ 64 = omega (arith, div-le_self n (10 ^ places)) in
    let front = decimal (n / 10 ^ places) in
    let fraction = last_digits places n in
    let size = length-last_digits places n in
    let some = decimal_nonempty (n / 10 ^ places) quotient in
    let short = length-decimal-le 20 (n / 10 ^ places) (lit< tt) (omega arith) quotient in
    decimal_by-short negative front fraction (decimal_all (n / 10 ^ places) quotient) (last_digits_all places n) (omega (arith, some)) (omega (arith, size, short)) ∙ rw (decimal_value (n / 10 ^ places) quotient, value_with_last places n, size) refl

starts_with_digit : (digits rest : List ℕ) → all_ascii_digits digits ≡ true → 0 < length digits → decimal_number (digits ++ rest) ≡ unsigned_decimal false (digits ++ rest)
starts_with_digit [] rest all some = absurd (omega arith)
starts_with_digit (byte ∷ digits) rest all some =
    let digit = IsDigit-from_test byte (and_parts _ _ all).0 in
    let low = digit.low in
    rw (ne_eqb byte 43 (λ is. omega arith), ne_eqb byte 45 (λ is. omega arith)) refl

size_read : (negative : Bool) (places n : ℕ) → places ≤ 6 → n < 2 ^ 64 → unsigned_decimal negative (size_text places n) ≡ Ok (number_with negative n places)
size_read negative places n few fits =
    let quotient : n / 10 ^ places < 2 ^ 64 = omega (arith, div-le_self n (10 ^ places)) in
    cut_at_point negative (decimal (n / 10 ^ places)) places n (decimal_all (n / 10 ^ places) quotient) ∙ decimal_by-digits negative places n few fits

-- the number that is written
abbrev pub number_of : ℕ → ℤ → PlainNumber
number_of places (pos n) = number_with false n places
number_of places (negsuc n) = number_with true (suc n) places

pub decimal_number-decimal_text : (places : ℕ) (v : ℤ) → places ≤ 6 → unsigned_abs v ≤ 2 ^ 63 → decimal_number (decimal_text places v) ≡ Ok (number_of places v)
decimal_number-decimal_text places (pos n) few fits =
    let quotient : n / 10 ^ places < 2 ^ 64 = omega (arith, div-le_self n (10 ^ places)) in
    starts_with_digit (decimal (n / 10 ^ places)) (fraction_text places n) (decimal_all (n / 10 ^ places) quotient) (decimal_nonempty (n / 10 ^ places) quotient) ∙ size_read false places n few (omega arith)
decimal_number-decimal_text places (negsuc n) few fits = size_read true places (suc n) few (omega arith)

-- without digits behind the point
pub decimal_number-decimal : (n : ℕ) → n ≤ 2 ^ 63 → decimal_number (decimal n) ≡ Ok (number_with false n 0)
decimal_number-decimal n fits =
    let text : decimal n ≡ decimal_text 0 (pos n) = ap decimal (sym (div-one n)) ∙ sym (append-nil (decimal (n / 10 ^ 0))) in
    ap decimal_number text ∙ decimal_number-decimal_text 0 (pos n) (omega arith) fits

scaled_size : (n : ℕ) (signed : ℕ → Result ℤ NumFault) (k places : ℕ) → cond (eqb (n * (k * 10 ^ places) % 10 ^ places) 0) (signed (n * (k * 10 ^ places) / 10 ^ places)) (Err OffGrid) ≡ signed (n * k)
scaled_size n signed k places =
    let moved : n * (k * 10 ^ places) ≡ (n * k) * 10 ^ places = omega arith in
    rw (moved, mul-mod_left (n * k) (10 ^ places), mul-div_cancel (n * k) (power_pos places)) refl

-- at k times the scale that it is written at
pub times_scale-number_of : (k places : ℕ) (v : ℤ) → times_scale (k * 10 ^ places) (number_of places v) ≡ Ok (pos k *ℤ v)
times_scale-number_of k places (pos n) = scaled_size n (λ size. Ok (pos size)) k places ∙ ap (λ size. Ok (pos size)) (mul_comm n k)
times_scale-number_of k places (negsuc n) =
    scaled_size (suc n) (λ size. Ok (neg_ℤ (pos size))) k places ∙ ap Ok (omega (arith, ints))

-- the text is read back at the scale that it was written at
pub decimal_times-decimal_text : (places : ℕ) (v : ℤ) → places ≤ 6 → unsigned_abs v ≤ 2 ^ 53 → decimal_times (10 ^ places) (decimal_text places v) ≡ Ok v
decimal_times-decimal_text places v few small =
    let whole : times_scale (10 ^ places) (number_of places v) ≡ Ok v =
    ap (λ scale. times_scale scale (number_of places v)) (omega arith) ∙ times_scale-number_of 1 places v ∙ ap Ok (omega (arith, ints)) in
    rw (decimal_number-decimal_text places v few (omega arith), whole, le-leb _ _ small) refl

-- ---- how it is written
pub zeros_of-le : (per_unit : ℕ) → zeros_of per_unit ≤ 4
zeros_of-le per_unit = grind (arith, nat_tests)

-- behind a 1 the last digits stand all
pub decimal_behind_one : (places n : ℕ) → 10 ^ places + n % 10 ^ places < 2 ^ 64 → decimal (10 ^ places + n % 10 ^ places) ≡ 49 ∷ last_digits places n
decimal_behind_one zero n fits = ap (λ rest. decimal (1 + rest)) (mod-one n) ∙ decimal_digit 1 (lit< tt)
decimal_behind_one (suc places) n fits =
    let power = 10 ^ places in
    let whole : 10 ^ suc places ≡ power * 10 = pow-suc 10 places in
    let rest : n % 10 ^ suc places ≡ (n / 10 % power) * 10 + n % 10 = ap (λ m. n % m) whole ∙ mod-mul n (power_pos places) (lit< tt) in
    let above : 1 ≤ power = power_pos places in
    let number = 10 ^ suc places + n % 10 ^ suc places in
    let front : number / 10 ≡ power + n / 10 % power = omega (arith, whole, rest) in
    let digit : number % 10 ≡ n % 10 = omega (arith, whole, rest) in
    let again = decimal_behind_one places (n / 10) (omega (arith, whole, rest)) in
    decimal_step number (omega (arith, whole, above)) fits ∙ ap (λ m. decimal m ++ (48 + number % 10) ∷ []) front ∙ ap (λ digits. digits ++ (48 + number % 10) ∷ []) again ∙ ap (λ d. 49 ∷ (last_digits places (n / 10) ++ (48 + d) ∷ [])) digit

pub length-behind_one : (places n : ℕ) → 10 ^ places + n % 10 ^ places < 2 ^ 64 → length (decimal (10 ^ places + n % 10 ^ places)) ≡ 1 + places
length-behind_one places n fits =
    ap length (decimal_behind_one places n fits) ∙ omega (arith, length-last_digits places n)

-- a power of ten that isn't 1 has a zero
pub zeros_of-pos : (places per_unit : ℕ) → 10 ^ places ≡ per_unit → (per_unit ≡ 1 → ⊥) → 1 ≤ places
zeros_of-pos zero per_unit is other = absurd (other (sym is))
zeros_of-pos (suc places) per_unit is other = omega arith

-- the rest behind a 1, for a scale of the given size
pub record IsBehindOne (places scale n : ℕ) : Type 0 where
  pub fits : 10 ^ places + n % 10 ^ places < 2 ^ 64
  pub same : scale + n % scale ≡ 10 ^ places + n % 10 ^ places
  pub count : length (decimal (scale + n % scale)) ≡ 1 + places

pub IsBehindOne-from_scale : (places scale n : ℕ) → scale ≡ 10 ^ places → scale < 2 ^ 32 → IsBehindOne places scale n
IsBehindOne-from_scale places scale n is below =
    let same : scale + n % scale ≡ 10 ^ places + n % 10 ^ places = ap (λ m. m + n % m) is in
    let fits : 10 ^ places + n % 10 ^ places < 2 ^ 64 = omega (arith, is, mod-lt n (power_pos places)) in
    record { fits = fits; same = same; count = ap (λ m. length (decimal m)) same ∙ length-behind_one places n fits }

-- the point in the place of the 1
pub point_set : (places n at : ℕ) (buffer : List ℕ) → 1 ≤ places → 10 ^ places + n % 10 ^ places < 2 ^ 64 → at < length buffer → drop at buffer ≡ decimal (10 ^ places + n % 10 ^ places) → drop at (set buffer at 46) ≡ fraction_text places n
point_set zero n at buffer some fits inside is = absurd (omega arith)
point_set (suc places) n at buffer some fits inside is =
    let behind : get_or buffer at 0 ∷ drop (at + 1) buffer ≡ 49 ∷ last_digits (suc places) n = sym (drop_more buffer at 0 inside) ∙ is ∙ decimal_behind_one (suc places) n fits in
    drop-set buffer at 46 inside ∙ ap (λ digits. 46 ∷ drop 1 digits) behind
