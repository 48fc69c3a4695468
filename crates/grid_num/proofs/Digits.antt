-- Texts of digits, read from the left.
use Rattle.std.proofs.Common.{◌≡◌, ℕ, ◌+◌, ◌-◌, ◌*◌, ◌<◌, true, false, None, List, length, get_or, take, ap, ◌∙◌, refl, arith}
use Rattle.std.specs.Char.{is_ascii_digit, digit_value}
use Rattle.std.proofs.lemmas.Bool.Decides.{nat_tests}
use Rattle.std.specs.Str.{all_ascii_digits}
use Rattle.std.specs.Str.Parse.{digits_value_after}
use Rattle.std.proofs.lemmas.List.Recursion.{and_fails_at, and_push}
use Rattle.std.proofs.lemmas.Bool.{and_right, and_from, cond-false}
use Rattle.std.proofs.lemmas.Grind.{take_at_read}
use Rattle.grid_num.specs.Whole.{digits_of}
use Rattle.grid_num.proofs.Runs.{digits_value_after-append}

-- one more digit
pub all_ascii_digits_more : (text : List ℕ) (i : ℕ) → i < length text → all_ascii_digits (take i text) ≡ true → is_ascii_digit (get_or text i 0) ≡ true → all_ascii_digits (take (i + 1) text) ≡ true
all_ascii_digits_more text i inside before here =
    ap all_ascii_digits (take_at_read text i 0 inside).1 ∙ and_push all_ascii_digits is_ascii_digit refl (λ _ _. refl) (take i text) (get_or text i 0) ∙ and_from _ _ before here

-- and its value
pub digits_value_after_more : (n : ℕ) (text : List ℕ) (i : ℕ) → i < length text → digits_value_after 10 n (take (i + 1) text) ≡ digits_value_after 10 n (take i text) * 10 + digit_value (get_or text i 0)
digits_value_after_more n text i inside =
    ap (digits_value_after 10 n) (take_at_read text i 0 inside).1 ∙ digits_value_after-append n (take i text) _

-- a byte that is no digit
pub digits_of_other : (text : List ℕ) (i : ℕ) → i < length text → is_ascii_digit (get_or text i 0) ≡ false → digits_of text ≡ None
digits_of_other text i inside here =
    let none = and_fails_at all_ascii_digits is_ascii_digit refl (λ _ _. refl) text i 0 inside here in
    cond-false _ _ _ (and_right _ _ none)

-- what a digit stands for
pub digit_value_is : (byte : ℕ) → is_ascii_digit byte ≡ true → (digit_value byte ≡ byte - 48) × (byte - 48 < 10)
digit_value_is byte is = grind (arith, nat_tests)
