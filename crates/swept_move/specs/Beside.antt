-- Edges beside a move: from every end of the one to every end of the other there is a gap along one axis.
use Rattle.std.specs.Prelude.{◌⊎◌, ℤ, ◌+ℤ◌, ◌≤ℤ◌}

-- a and b are at least r below c and d
pub record AreBelow (r a b c d : ℤ) : Type 0 where
  pub a_c : (a +ℤ r) ≤ℤ c
  pub a_d : (a +ℤ r) ≤ℤ d
  pub b_c : (b +ℤ r) ≤ℤ c
  pub b_d : (b +ℤ r) ≤ℤ d

-- a and b are at least r below c and d, or above them
abbrev pub AreBeside : (r a b c d : ℤ) → Type 0
AreBeside r a b c d = AreBelow r a b c d ⊎ AreBelow r c d a b
