-- Two places of the tip against a point: when some place between them holds the point in the bit's disc.
use Rattle.std.specs.Prelude.{◌⊎◌, ℤ, pos, ◌*ℤ◌, ◌<ℤ◌}
use Rattle.plane_exact.specs.Heights.{GridPlace}
use Rattle.plane_exact.specs.declared.moves.Move.{Move}

-- the move from the one place to the other
abbrev pub move_of : GridPlace → GridPlace → Move
move_of f g = record { from = f; to = g }

-- by how much the square of the way from the point to a place exceeds that of the bit's radius there is a quadratic form of the
-- weights of two places between which it lies: C l^2 + 2 H l m + E m^2, with C of the first, E of the last, and H of both. It is
-- negative at some weights, neither of them negative, at which the place is below the surface; d and e are the depths of the two
pub record IsDip (C H E d e : ℤ) : Type 0 where
  pub facing : H <ℤ pos 0
  pub low : (C *ℤ E) <ℤ (H *ℤ H)
  pub below : (H *ℤ d) <ℤ (C *ℤ e)

-- the first place, which is below the surface, holds the point, or the last does, or one between them
abbrev pub IsMet : (C H E d e : ℤ) → Type 0
IsMet C H E d e = (C <ℤ pos 0) ⊎ (((E <ℤ pos 0) × (pos 0 <ℤ e)) ⊎ IsDip C H E d e)
