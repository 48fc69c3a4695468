-- Whole numbers in text: an optional minus and one to nine digits.
use Rattle.std.specs.Prelude.{ℕ, ◌&&◌, if◌then◌else◌, Option, Some, None, List, [], ◌∷◌, length, ℤ, pos, neg_ℤ, nat_le, ◌==◌, option_map}
use Rattle.integer_algebra.specs.Ranges.{IsUpTo}
use Rattle.std.specs.Str.{all_ascii_digits}
use Rattle.std.specs.Str.Parse.{digits_value}
use Rattle.std.specs.List.{before_first, after_first, list_any}
use Rattle.grid_num.specs.declared.whole.TheConstants.{MOST_WHOLE_DIGITS}

-- '-'
abbrev pub minus : ℕ
minus = 45

-- the number that one to nine digits write in base 10
abbrev pub digits_of : List ℕ → Option ℕ
digits_of text =
    if nat_le 1 (length text) && nat_le (length text) MOST_WHOLE_DIGITS && all_ascii_digits text then Some (digits_value 10 text) else None

-- the number that an optional minus and one to nine digits write; a minus before zeros is 0
abbrev pub whole_of : List ℕ → Option ℤ
whole_of [] = None
whole_of (byte ∷ rest) =
    if byte == minus then option_map (λ n. neg_ℤ (pos n)) (digits_of rest) else option_map pos (digits_of (byte ∷ rest))

-- a number that nine digits can write, with or without a minus
abbrev pub IsOfNineDigits : ℤ → Type 0
IsOfNineDigits n = IsUpTo (pos 999999999) n

-- both values, where there are both
abbrev pub both : {A B : Type 0} → Option A → Option B → Option (A × B)
both (Some x) (Some y) = Some (x, y)
both _ _ = None

-- two such numbers with one separator between them
abbrev pub pair_of : ℕ → List ℕ → Option (ℤ × ℤ)
pair_of separator text =
    if list_any (λ byte. byte == separator) text
    then both (whole_of (before_first (λ byte. byte == separator) text)) (whole_of (after_first (λ byte. byte == separator) text))
    else None
