-- Numbers in text that may have an exponent, rounded to whole numbers of a scale.
use Rattle.std.specs.Prelude.{ℕ, ◌+◌, ◌*◌, ◌^◌, Bool, true, false, ◌&&◌, ◌||◌, if◌then◌else◌, List, [], ◌∷◌, length, ℤ, pos, neg_ℤ, nat_le, ◌==◌, Result, Ok, Err}
use Rattle.std.specs.Str.{all_ascii_digits}
use Rattle.std.specs.Str.Parse.{digits_value}
use Rattle.std.specs.List.{before_first, after_first, list_any}
use Rattle.grid_num.specs.Decimal.{PlainNumber, decimal_number, in_size}
use Rattle.grid_num.specs.Judging.{and_then}
use Rattle.grid_num.specs.Rounding.{nearest}
use Rattle.grid_num.specs.declared.decimal.NumFault.{NumFault}
use Rattle.grid_num.specs.declared.decimal.NumFault.TheVariants.{NotNumber}
use Rattle.grid_num.specs.declared.real.Exponent.{Exponent}
use Rattle.grid_num.specs.declared.real.TheConstants.{MOST_EXPONENT_DIGITS}

-- an 'e' (101) or an 'E' (69)
abbrev pub is_exponent_mark : ℕ → Bool
is_exponent_mark byte = byte == 101 || byte == 69

-- the exponent of a number without one
abbrev pub no_exponent : Exponent
no_exponent = record { up = 0; down = 0 }

-- one to three digits, of an exponent above or below 0
abbrev pub digits_exponent : Bool → List ℕ → Result Exponent NumFault
digits_exponent negative digits =
    if nat_le 1 (length digits) && nat_le (length digits) MOST_EXPONENT_DIGITS && all_ascii_digits digits
    then Ok (if negative then record { up = 0; down = digits_value 10 digits } else record { up = digits_value 10 digits; down = 0 })
    else Err NotNumber

-- the exponent that a text writes, after a '+' (43), a '-' (45) or no sign
abbrev pub exponent_of : List ℕ → Result Exponent NumFault
exponent_of [] = Err NotNumber
exponent_of (byte ∷ rest) =
    if byte == 43 then digits_exponent false rest
    else if byte == 45 then digits_exponent true rest
    else digits_exponent false (byte ∷ rest)

-- what stands behind the first mark; no exponent where there is no mark
abbrev pub real_exponent : List ℕ → Result Exponent NumFault
real_exponent text = if list_any is_exponent_mark text then exponent_of (after_first is_exponent_mark text) else Ok no_exponent

-- a number by its sign and its size
abbrev pub signed : Bool → ℕ → ℤ
signed negative size = if negative then neg_ℤ (pos size) else pos size

-- the whole number nearest to a number times the scale and the power of ten
unfoldable pub scaled_real : ℕ → PlainNumber → Exponent → ℤ
scaled_real scale number exponent =
    nearest (signed number.negative (number.digits * scale * 10 ^ exponent.up)) (10 ^ (number.places + exponent.down))

-- the number of a text times the scale, rounded, or the first of the faults that applies
abbrev pub real_times : ℕ → List ℕ → Result ℤ NumFault
real_times scale text =
    and_then (real_exponent text) (λ exponent.
    and_then (decimal_number (before_first is_exponent_mark text)) (λ number.
    in_size (scaled_real scale number exponent)))
