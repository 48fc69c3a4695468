-- The greatest number with a property.
use Rattle.std.specs.Prelude.{ℕ, ◌≤◌}

-- z has the property, and no greater number up to most has it
pub record IsGreatestUpTo (P : ℕ → Type 0) (most z : ℕ) : Type 0 where
  pub has : P z
  pub within : z ≤ most
  pub greatest : (y : ℕ) → y ≤ most → P y → y ≤ z
