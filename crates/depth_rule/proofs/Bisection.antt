-- Bisection for the greatest number that has a property which lesser numbers share.
use Rattle.std.proofs.Common.{ℕ, ◌-◌, ◌<◌, ◌≤◌, arith, inl, inr}
use Rattle.std.proofs.lemmas.Bool.{cases_lt}

-- low has the property, and no number up to most has it above high
pub record Brackets (P : ℕ → Type 0) (most low high : ℕ) : Type 0 where
  pub ordered : low ≤ high
  pub within : high ≤ most
  pub has : P low
  pub greatest : (z : ℕ) → z ≤ most → P z → z ≤ high

pub brackets_all : (P : ℕ → Type 0) (most : ℕ) → P 0 → Brackets P most 0 most
brackets_all P most has =
    record { ordered = omega arith; within = omega arith; has = has; greatest = λ z below _. below }

pub brackets_below : (P : ℕ → Type 0) → ((y z : ℕ) → y ≤ z → P z → P y)
    → (most low high middle : ℕ) → Brackets P most low high → low < middle → middle ≤ high → ¬ P middle
    → Brackets P most low (middle - 1)
brackets_below P down most low high middle brackets above below lacks =
    record {
      ordered = omega arith;
      within = omega arith;
      has = brackets.has;
      greatest = λ z within has.
          elim (cases_lt z middle) [ inl less ↦ omega arith | inr more ↦ absurd (lacks (down middle z more has)) ];
    }
