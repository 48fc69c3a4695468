-- Runs of digits: two of them one after the other, their lengths without zeros in front, and their values.
use Rattle.std.proofs.Common.{◌≡◌, ℕ, ◌+◌, ◌-◌, ◌*◌, ◌<◌, ◌≤◌, ◌^◌, Bool, true, false, ◌&&◌, cond, eqb, leb, List, [], ◌∷◌, ◌++◌, length, get_or, drop, sym, ◌∙◌, refl, arith, length-append, lit<}
use Rattle.std.specs.Char.{is_ascii_digit, digit_value}
use Rattle.std.specs.Str.{all_ascii_digits}
use Rattle.std.specs.Str.Parse.{digits_value_after, AllDigits}
use Rattle.std.proofs.Math.Nat.{pow-le-pow_right, one-le-pow}
use Rattle.std.proofs.lemmas.Bool.{and_parts, eqb-true}
use Rattle.std.proofs.lemmas.Bool.Decides.{nat_tests}
use Rattle.std.proofs.lemmas.Int.Digits.{digits_value-lt}
use Rattle.std.proofs.lemmas.List.{at_drop_more}
use Rattle.grid_num.specs.Decimal.{counted_digits}

pub record IsDigit (byte : ℕ) : Type 0 where
  pub low : 48 ≤ byte
  pub high : byte ≤ 57
  pub value : digit_value byte ≡ byte - 48

pub IsDigit-from_test : (byte : ℕ) → is_ascii_digit byte ≡ true → IsDigit byte
IsDigit-from_test byte test =
    let low : 48 ≤ byte = grind (arith, nat_tests) in
    let high : byte ≤ 57 = grind (arith, nat_tests) in
    record { low = low; high = high; value = grind (arith, nat_tests) }

-- the digit at a place, and those behind it
pub all_ascii_digits-drop : (digits : List ℕ) (i : ℕ) → i < length digits → all_ascii_digits (drop i digits) ≡ true → IsDigit (get_or digits i 0) × (all_ascii_digits (drop (i + 1) digits) ≡ true)
all_ascii_digits-drop digits i inside all =
    let parts = and_parts _ _ (sym (at_drop_more all_ascii_digits digits i 0 inside) ∙ all) in
    (IsDigit-from_test _ parts.0, parts.1)

pub digits_value_after-drop : (n : ℕ) (digits : List ℕ) (i : ℕ) → i < length digits → digits_value_after 10 n (drop i digits) ≡ digits_value_after 10 (n * 10 + digit_value (get_or digits i 0)) (drop (i + 1) digits)
digits_value_after-drop n digits i inside = at_drop_more (digits_value_after 10 n) digits i 0 inside

pub all_ascii_digits-append : (xs ys : List ℕ) → all_ascii_digits (xs ++ ys) ≡ (all_ascii_digits xs && all_ascii_digits ys)
all_ascii_digits-append [] ys = refl
all_ascii_digits-append (x ∷ xs) ys = grind (arith, all_ascii_digits-append xs ys)

pub digits_value_after-append : (n : ℕ) (xs ys : List ℕ) → digits_value_after 10 n (xs ++ ys) ≡ digits_value_after 10 (digits_value_after 10 n xs) ys
digits_value_after-append n [] ys = refl
digits_value_after-append n (x ∷ xs) ys = digits_value_after-append (n * 10 + digit_value x) xs ys

pub le-digits_value_after : (n : ℕ) (digits : List ℕ) → n ≤ digits_value_after 10 n digits
le-digits_value_after n [] = omega arith
le-digits_value_after n (digit ∷ digits) = omega (arith, le-digits_value_after (n * 10 + digit_value digit) digits)

-- the value so far, with the digit at a place, is at most the whole value
pub le-digits_value_after-drop : (n : ℕ) (digits : List ℕ) (i : ℕ) → i < length digits → all_ascii_digits (drop i digits) ≡ true → n * 10 + (get_or digits i 0 - 48) ≤ digits_value_after 10 n (drop i digits)
le-digits_value_after-drop n digits i inside all =
    let here = (all_ascii_digits-drop digits i inside all).0 in
    let value = here.value in
    omega (arith, digits_value_after-drop n digits i inside, le-digits_value_after (n * 10 + digit_value (get_or digits i 0)) (drop (i + 1) digits))

counted_by : (is_zero : Bool) (x : ℕ) (xs ys : List ℕ) → counted_digits (xs ++ ys) ≡ cond (eqb (counted_digits xs) 0) (counted_digits ys) (counted_digits xs + length ys) → cond is_zero (counted_digits (xs ++ ys)) (length (x ∷ (xs ++ ys))) ≡ cond (eqb (cond is_zero (counted_digits xs) (length (x ∷ xs))) 0) (counted_digits ys) (cond is_zero (counted_digits xs) (length (x ∷ xs)) + length ys)
counted_by true x xs ys rest = rest
counted_by false x xs ys rest = grind (arith, nat_tests, length-append {A = ℕ})

pub counted_digits-append : (xs ys : List ℕ) → counted_digits (xs ++ ys) ≡ cond (eqb (counted_digits xs) 0) (counted_digits ys) (counted_digits xs + length ys)
counted_digits-append [] ys = refl
counted_digits-append (x ∷ xs) ys = counted_by (eqb x 48) x xs ys (counted_digits-append xs ys)

AllDigits-from_test : (digits : List ℕ) → all_ascii_digits digits ≡ true → AllDigits 10 digits
AllDigits-from_test [] all = tt
AllDigits-from_test (digit ∷ digits) all =
    let parts = and_parts _ _ all in
    let here = IsDigit-from_test digit parts.0 in
    (omega arith, AllDigits-from_test digits parts.1)

-- at most so many digits, except zeros in front
pub digits_value-lt_counted : (most : ℕ) (digits : List ℕ) → all_ascii_digits digits ≡ true → counted_digits digits ≤ most → digits_value_after 10 0 digits < 10 ^ most
digits_value-lt_counted most [] all few = omega (arith, one-le-pow most 10)
digits_value-lt_counted most (digit ∷ digits) all few =
    lt_by (eqb digit 48) refl few (digits_value-lt_counted most digits (and_parts _ _ all).1)
  where
    lt_by : (is_zero : Bool) → eqb digit 48 ≡ is_zero → cond is_zero (counted_digits digits) (length (digit ∷ digits)) ≤ most → (counted_digits digits ≤ most → digits_value_after 10 0 digits < 10 ^ most) → digits_value_after 10 0 (digit ∷ digits) < 10 ^ most
    lt_by true zero short rest = rw (eqb-true _ _ zero) (rest short)
    lt_by false other short rest =
        omega (arith, digits_value-lt 10 (digit ∷ digits) (AllDigits-from_test (digit ∷ digits) all), pow-le-pow_right {n = 10} (lit< tt) short)

pub counted_digits-le : (digits : List ℕ) → counted_digits digits ≤ length digits
counted_digits-le [] = omega arith
counted_digits-le (digit ∷ digits) = le_by (eqb digit 48) (counted_digits-le digits)
  where
    le_by : (is_zero : Bool) → counted_digits digits ≤ length digits → cond is_zero (counted_digits digits) (length (digit ∷ digits)) ≤ length (digit ∷ digits)
    le_by true rest = omega arith
    le_by false rest = omega arith

-- the digits before and behind the point, where there are not too many
pub record AreNumeral (whole fraction : List ℕ) : Type 0 where
  pub in_whole : all_ascii_digits whole ≡ true
  pub in_fraction : all_ascii_digits fraction ≡ true
  pub whole_fits : digits_value_after 10 0 whole < 10 ^ 27
  pub value : digits_value_after 10 0 (whole ++ fraction) ≡ digits_value_after 10 (digits_value_after 10 0 whole) fraction
  pub fits : digits_value_after 10 (digits_value_after 10 0 whole) fraction < 10 ^ 27

pub AreNumeral-from_tests : (whole fraction : List ℕ) → (leb 1 (length (whole ++ fraction)) && all_ascii_digits (whole ++ fraction)) ≡ true → counted_digits (whole ++ fraction) ≤ 27 → AreNumeral whole fraction
AreNumeral-from_tests whole fraction test few =
    let all : all_ascii_digits (whole ++ fraction) ≡ true = (and_parts (leb 1 (length (whole ++ fraction))) (all_ascii_digits (whole ++ fraction)) test).1 in
    let parts = and_parts (all_ascii_digits whole) (all_ascii_digits fraction) (sym (all_ascii_digits-append whole fraction) ∙ all) in
    let value : digits_value_after 10 0 (whole ++ fraction) ≡ digits_value_after 10 (digits_value_after 10 0 whole) fraction = digits_value_after-append 0 whole fraction in
    let small : digits_value_after 10 0 (whole ++ fraction) < 10 ^ 27 = digits_value-lt_counted 27 (whole ++ fraction) all few in
    record {
      in_whole = parts.0;
      in_fraction = parts.1;
      whole_fits = omega (arith, le-digits_value_after (digits_value_after 10 0 whole) fraction);
      value = value;
      fits = omega arith;
    }
