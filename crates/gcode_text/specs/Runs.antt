-- The bytes of a line.
use Rattle.std.specs.Prelude.{ℕ, Bool, not, ◌==◌}

-- no line feed (10)
abbrev pub is_of_line : ℕ → Bool
is_of_line byte = not (byte == 10)
