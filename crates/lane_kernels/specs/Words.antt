-- Numbers of 64 bits as sets.
use Rattle.std.specs.Prelude.{ℕ, ◌-◌, ◌^◌, bit_and}

-- the bits of a that b doesn't have
abbrev pub without : (a b : ℕ) → ℕ
without a b = bit_and a (2 ^ 64 - 1 - b)
