-- The rows, and the columns, that a move can reach.
use Rattle.std.specs.Prelude.{ℕ, ℤ, pos, ◌+ℤ◌, ◌-ℤ◌, ◌*ℤ◌, ◌≤ℤ◌, ◌<ℤ◌}
use Rattle.plane_exact.specs.Cone.{Cone}
use Rattle.plane_exact.specs.Plane.{GridPoint, rational}
use Rattle.plane_exact.specs.declared.moves.Move.{Move}
use Rattle.engrave_model.specs.Removal.{Removes}

-- the lines of the grid from low to high are those that lie at most r tenths on either side of the coordinate z, which is in tenths
pub record AreLinesAround (z r low high : ℤ) : Type 0 where
  pub first : (z -ℤ r) ≤ℤ (pos 10 *ℤ low)
  pub least : (pos 10 *ℤ low) <ℤ (z -ℤ r +ℤ pos 10)
  pub last : (pos 10 *ℤ high) ≤ℤ (z +ℤ r)
  pub most : (z +ℤ r) <ℤ (pos 10 *ℤ high +ℤ pos 10)

-- each line i that is nearer to the coordinate than the bit's radius at the depth, and on its lesser side, is at least low; on its
-- greater side it is at most high
pub record IsSpan (cone : Cone) (z : ℤ) (depth : ℕ) (low high : ℤ) : Type 0 where
  pub lower : (i : ℤ) → (pos cone.sd *ℤ (z -ℤ pos 10 *ℤ i)) <ℤ (pos cone.sn *ℤ pos depth) → low ≤ℤ i
  pub upper : (i : ℤ) → (pos cone.sd *ℤ (pos 10 *ℤ i -ℤ z)) <ℤ (pos cone.sn *ℤ pos depth) → i ≤ℤ high

-- what the move removes of the grid lies in the columns from low to high
abbrev pub IsColumnBand : Cone → Move → (low high : ℤ) → Type 0
IsColumnBand cone mv low high = (p : GridPoint) → Removes cone mv (rational p) → (low ≤ℤ p.x) × (p.x ≤ℤ high)
