-- Ranges of the numbers that the discs of a contact are computed with.
--
-- The denominator of a disc's centre is n L, at most 8192 * 92,681 = 759,242,752. Coordinates of a centre are at most 40,960 from 0,
-- and those of an edge's point 32,768, so that a way between them is at most 73,727 long in either coordinate. Its cross and its dot
-- product with the way along an edge stay below 2^63, and the square of such a product below 2^126.
use Rattle.std.specs.Prelude.{ℤ, pos, negsuc, ◌*ℤ◌, ◌≤ℤ◌}
use Rattle.integer_algebra.specs.Ranges.{IsUpTo, IsWithin}
use Rattle.evenodd_region.specs.Lookup.{IsNearGrid}

-- the greatest denominator
abbrev pub most_over : ℤ
most_over = pos 759242752

-- z / over is from -32768 to 32767, as a coordinate is
abbrev pub IsAmongGrid : ℤ → ℤ → Type 0
IsAmongGrid z over = IsWithin (negsuc 32767 *ℤ over) (pos 32767 *ℤ over) z

-- a coordinate of a contact, times the denominator
abbrev pub IsStart : ℤ → Type 0
IsStart z = IsUpTo (pos 24878866497536) z

-- what a coordinate of the centre gains with each number, times the denominator: at most 1
abbrev pub IsStep : ℤ → Type 0
IsStep z = IsUpTo most_over z

-- the square of the denominator, at most
abbrev pub most_squared : ℤ
most_squared = pos 576449556464533504

-- the numbers of an open disc: the centre is near the grid, and the radius at most 8191
pub record IsOpenDisc (x y over reach : ℤ) : Type 0 where
  pub some : pos 1 ≤ℤ over
  pub small : over ≤ℤ most_over
  pub near_x : IsNearGrid x over
  pub near_y : IsNearGrid y over
  pub reaching : IsWithin (pos 0) (pos 38675430914555141290983424) reach
