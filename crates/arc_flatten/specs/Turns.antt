-- Angles as parts of a full turn.
use Rattle.std.specs.Prelude.{ℕ, ◌+◌, ◌-◌, ◌%◌, ◌==◌, if◌then◌else◌, ℤ, pos, ◌+ℤ◌, ◌*ℤ◌, unsigned_abs}
use Rattle.std.specs.Int.{int_div_euclid, int_rem_euclid}

-- the direction number of an angle in millionths of a degree: of the 2^22 parts of a full turn, counted counterclockwise from the x
-- axis, the nearest one, reduced by whole turns
abbrev pub turn_of : ℤ → ℕ
turn_of micro = unsigned_abs (int_rem_euclid (int_div_euclid (pos 8388608 *ℤ micro +ℤ pos 360000000) (pos 720000000)) (pos 4194304))

-- the part of a turn from one direction counterclockwise to another: a full turn where they are one
abbrev pub span_between : (from to : ℕ) → ℕ
span_between from to = let span = (to + 4194304 - from) % 4194304 in if span == 0 then 4194304 else span
