-- The multiples of a pitch in a range.
use Rattle.std.specs.Prelude.{◌≡◌, ℕ, ◌-◌, ◌*◌, ◌≤◌, ℤ, pos, ◌+ℤ◌, ◌*ℤ◌, ◌<ℤ◌, ◌≤ℤ◌}

-- z is a multiple of the pitch
pub record IsMultiple (pitch : ℕ) (z : ℤ) : Type 0 where
  pub times : ℤ
  pub is : z ≡ times *ℤ pos pitch

-- so many multiples of the pitch, from `first` on, are those from `low` to `high`
pub record AreTicks (low high : ℤ) (pitch : ℕ) (first : ℤ) (count : ℕ) : Type 0 where
  pub multiple : IsMultiple pitch first
  pub above : low ≤ℤ first
  pub next : first <ℤ (low +ℤ pos pitch)
  pub some : 1 ≤ count
  pub last : (first +ℤ pos ((count - 1) * pitch)) ≤ℤ high
  pub behind : high <ℤ (first +ℤ pos (count * pitch))
