-- The first and the last of the numbers up to a greatest one that have a property.
use Rattle.std.specs.Prelude.{ℕ, ◌≤◌, pos, ◌+ℤ◌}
use Rattle.plane_exact.specs.Cone.{Cone}
use Rattle.plane_exact.specs.Plane.{GridPoint}
use Rattle.plane_exact.specs.declared.moves.Move.{Move}
use Rattle.swept_move.specs.Row.{RemovesAt}

-- the move removes the grid point that lies j to the right of p
abbrev pub RemovesBehind : Cone → Move → GridPoint → ℕ → Type 0
RemovesBehind cone mv p j = RemovesAt cone mv p.y (p.x +ℤ pos j)

-- i is the first number up to last with the property, if one has it
pub record IsFirst (P : ℕ → Type 0) (last i : ℕ) : Type 0 where
  pub within : i ≤ last
  pub least : (j : ℕ) → j ≤ last → P j → i ≤ j
  pub holds : (j : ℕ) → j ≤ last → P j → P i

-- i is the last number up to last with the property
pub record IsLast (P : ℕ → Type 0) (last i : ℕ) : Type 0 where
  pub within : i ≤ last
  pub holds : P i
  pub greatest : (j : ℕ) → j ≤ last → P j → j ≤ i
