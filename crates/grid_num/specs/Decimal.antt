-- Plain decimal numbers: an optional sign, then digits with at most one point among, before or after them.
use Rattle.std.specs.Prelude.{ℕ, ◌*◌, ◌/◌, ◌%◌, ◌^◌, Bool, true, false, not, ◌&&◌, if◌then◌else◌, List, [], ◌∷◌, ◌++◌, length, ℤ, pos, neg_ℤ, nat_le, nat_lt, ◌==◌, unsigned_abs, Result, Ok, Err}
use Rattle.std.specs.Str.{all_ascii_digits}
use Rattle.std.specs.Str.Parse.{digits_value}
use Rattle.std.specs.List.{before_first, after_first}
use Rattle.grid_num.specs.Judging.{and_then}
use Rattle.grid_num.specs.declared.decimal.NumFault.{NumFault}
use Rattle.grid_num.specs.declared.decimal.TheConstants.{MOST_DIGITS}
use Rattle.grid_num.specs.declared.decimal.NumFault.TheVariants.{NotNumber, TooManyDigits, OffGrid, OutOfRange}

-- the number digits / 10 ^ places, or minus that
pub record PlainNumber : Type 0 where
  pub negative : Bool
  pub digits : ℕ
  pub places : ℕ

-- how many digits a number has from the first that isn't 0 (48) on
abbrev pub counted_digits : List ℕ → ℕ
counted_digits [] = 0
counted_digits (digit ∷ rest) = if digit == 48 then counted_digits rest else length (digit ∷ rest)

-- the digits before and behind the point, as a number
abbrev pub decimal_by : Bool → List ℕ → List ℕ → Result PlainNumber NumFault
decimal_by negative whole fraction =
    let digits = whole ++ fraction in
    if not (nat_le 1 (length digits) && all_ascii_digits digits) then Err NotNumber
    else if nat_lt MOST_DIGITS (counted_digits digits) then Err TooManyDigits
    else Ok (record { negative = negative; digits = digits_value 10 digits; places = length fraction })

-- a number without its sign: what stands before the first point (46), and what stands behind it
abbrev pub unsigned_decimal : Bool → List ℕ → Result PlainNumber NumFault
unsigned_decimal negative text =
    decimal_by negative (before_first (λ byte. byte == 46) text) (after_first (λ byte. byte == 46) text)

-- the number that a text writes, after a '+' (43), a '-' (45) or no sign
abbrev pub decimal_number : List ℕ → Result PlainNumber NumFault
decimal_number [] = Err NotNumber
decimal_number (byte ∷ rest) =
    if byte == 43 then unsigned_decimal false rest
    else if byte == 45 then unsigned_decimal true rest
    else unsigned_decimal false (byte ∷ rest)

-- a number times the scale, where that is whole
abbrev pub times_scale : ℕ → PlainNumber → Result ℤ NumFault
times_scale scale number =
    if number.digits * scale % 10 ^ number.places == 0
    then (let size = number.digits * scale / 10 ^ number.places in
    Ok (if number.negative then neg_ℤ (pos size) else pos size))
    else Err OffGrid

-- the number is so many tenths
abbrev pub is_tenths : PlainNumber → ℕ → Bool
is_tenths number tenths = number.digits * 10 == tenths * 10 ^ number.places && not (number.negative && not (number.digits == 0))

-- not above 2 ^ 53 in size
abbrev pub in_size : ℤ → Result ℤ NumFault
in_size z = if nat_le (unsigned_abs z) (2 ^ 53) then Ok z else Err OutOfRange

-- the number of a text times the scale, or the first of the faults that applies
abbrev pub decimal_times : ℕ → List ℕ → Result ℤ NumFault
decimal_times scale text = and_then (and_then (decimal_number text) (times_scale scale)) in_size
