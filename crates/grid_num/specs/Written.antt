-- The text that a number of grid units is written as.
use Rattle.std.specs.Prelude.{◌≡◌, ℕ, zero, suc, ◌+◌, ◌/◌, ◌%◌, ◌^◌, if◌then◌else◌, List, [], ◌∷◌, ◌++◌, ℤ, pos, negsuc, decimal, ◌==◌}

-- how many zeros a power of ten from 1 to 10,000 has
abbrev pub zeros_of : ℕ → ℕ
zeros_of per_unit =
    if per_unit == 10 then 1
    else if per_unit == 100 then 2
    else if per_unit == 1000 then 3
    else if per_unit == 10000 then 4
    else 0

-- 1, 10, 100, 1000 or 10,000
abbrev pub IsPowerOfTen : ℕ → Type 0
IsPowerOfTen per_unit = 10 ^ zeros_of per_unit ≡ per_unit

-- the last digits of a number, so many, with zeros in front
abbrev pub last_digits : ℕ → ℕ → List ℕ
last_digits zero n = []
last_digits (suc places) n = last_digits places (n / 10) ++ (48 + n % 10) ∷ []

-- the point (46) and the digits behind it; nothing where there are none
abbrev pub fraction_text : ℕ → ℕ → List ℕ
fraction_text zero n = []
fraction_text (suc places) n = 46 ∷ last_digits (suc places) n

-- n / 10 ^ places, with so many digits behind the point
abbrev pub size_text : ℕ → ℕ → List ℕ
size_text places n = decimal (n / 10 ^ places) ++ fraction_text places n

-- v / 10 ^ places, with a '-' (45) where v is negative
abbrev pub decimal_text : ℕ → ℤ → List ℕ
decimal_text places (pos n) = size_text places n
decimal_text places (negsuc n) = 45 ∷ size_text places (suc n)
