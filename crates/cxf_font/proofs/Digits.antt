-- Texts of hexadecimal digits, read from the left.
use Rattle.std.proofs.Common.{◌≡◌, ℕ, ◌+◌, ◌<◌, Bool, true, false, ◌&&◌, Some, None, List, length, get_or, take, nat_le, sym, ap, ◌∙◌, arith}
use Rattle.std.specs.Char.{digit_value, is_digit}
use Rattle.std.specs.List.{list_all}
use Rattle.std.specs.Str.Parse.{digits_value}
use Rattle.std.proofs.lemmas.Bool.{and_from, and_right, cond-false, cond-true, lt-ltb}
use Rattle.std.proofs.lemmas.Bool.Decides.{nat_tests}
use Rattle.std.proofs.lemmas.List.Folds.{list_all_at, list_all_more}
use Rattle.cxf_font.specs.Keys.{hexadecimal_of}

abbrev is_hexadecimal : ℕ → Bool
is_hexadecimal digit = is_digit digit 16

-- another number of digits
pub hexadecimal_of-none : (text : List ℕ) → (nat_le 1 (length text) && nat_le (length text) 6) ≡ false → None ≡ hexadecimal_of text
unfolding hexadecimal_of
hexadecimal_of-none text other = sym (cond-false _ _ _ (ap (λ b. b && list_all is_hexadecimal text) other))

-- a byte that is no digit
pub hexadecimal_of-other : (text : List ℕ) (i : ℕ) → i < length text → (digit_value (get_or text i 0) < 16 → ⊥) → None ≡ hexadecimal_of text
unfolding hexadecimal_of
hexadecimal_of-other text i inside other =
    let here : is_hexadecimal (get_or text i 0) ≡ false = grind (arith, nat_tests) in
    sym (cond-false _ _ _ (and_right _ _ (list_all_at is_hexadecimal text i 0 inside here)))

-- nothing but digits
pub hexadecimal_of-all : (text : List ℕ) (number : ℕ) → (nat_le 1 (length text) && nat_le (length text) 6) ≡ true → list_all is_hexadecimal text ≡ true → number ≡ digits_value 16 text → Some number ≡ hexadecimal_of text
unfolding hexadecimal_of
hexadecimal_of-all text number few digits value = ap Some value ∙ sym (cond-true _ _ _ (and_from _ _ few digits))

-- one more digit
pub hexadecimal_more : (text : List ℕ) (i : ℕ) → i < length text → list_all is_hexadecimal (take i text) ≡ true → digit_value (get_or text i 0) < 16 → list_all is_hexadecimal (take (i + 1) text) ≡ true
hexadecimal_more text i inside before here =
    list_all_more is_hexadecimal text i 0 inside ∙ and_from _ _ before (lt-ltb (digit_value (get_or text i 0)) 16 here)
