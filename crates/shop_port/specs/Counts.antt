-- Counts of calls and of what went wrong, as a program keeps them in 64 bits.
use Rattle.std.specs.Prelude.{◌≡◌, ◌⊎◌, ◌==◌, ◌<◌, ◌+◌, ◌-◌, ◌^◌, min, ℕ, Bool, List}
use Rattle.std.specs.List.{list_any}

-- the count is higher than before, or stands at its last value
abbrev pub Rose : ℕ → ℕ → Type 0
Rose before now = (before < now) ⊎ (now ≡ 2 ^ 64 - 1)

-- the next count, which stands still at the last value
abbrev pub one_more : ℕ → ℕ
one_more n = min (n + 1) (2 ^ 64 - 1)

-- the number is among the numbers
abbrev pub is_listed : ℕ → List ℕ → Bool
is_listed n numbers = list_any (λ m. m == n) numbers
