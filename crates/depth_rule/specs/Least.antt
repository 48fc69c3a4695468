-- The least number found so far.
use Rattle.std.specs.Prelude.{ℕ, ◌≤◌, Option, None, Some}

-- there is one, and it isn't above k
abbrev pub AtMost : Option ℕ → ℕ → Type 0
AtMost None k = ⊥
AtMost (Some e) k = e ≤ k
