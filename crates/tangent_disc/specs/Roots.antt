-- Square roots rounded up.
use Rattle.std.specs.Prelude.{ℕ, ◌*◌, ◌≤◌}

-- the least number whose square is at least v
pub record IsRootUp (v root : ℕ) : Type 0 where
  pub enough : v ≤ root * root
  pub least : (m : ℕ) → v ≤ m * m → root ≤ m
