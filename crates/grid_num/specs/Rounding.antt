-- Quotients rounded to the nearest whole number.
use Rattle.std.specs.Prelude.{ℕ, ◌*◌, ℤ, pos, ◌+ℤ◌, ◌*ℤ◌}
use Rattle.std.specs.Int.{int_div_euclid}

-- the whole number nearest to z / over, for an `over` above 0; of two equally near the greater
abbrev pub nearest : ℤ → ℕ → ℤ
nearest z over = int_div_euclid (pos 2 *ℤ z +ℤ pos over) (pos (2 * over))
