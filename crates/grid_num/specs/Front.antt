-- The bytes of a number at the front of a text.
use Rattle.std.specs.Prelude.{ℕ, Bool, ◌||◌, ◌==◌}
use Rattle.std.specs.Char.{is_ascii_digit}

-- a sign, a point or a digit
abbrev pub is_number_byte : ℕ → Bool
is_number_byte byte = byte == 43 || byte == 45 || byte == 46 || is_ascii_digit byte
