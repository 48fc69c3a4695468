-- What is asked of a move and a bit: how deep the ends are, and whether the bit is too wide there. Moves are in tenths of a grid
-- unit.
use Rattle.std.specs.Prelude.{ℕ, suc, ◌*◌, ◌<◌, ◌⊎◌, ℤ, pos, negsuc, if◌then◌else◌, nat_lt}
use Rattle.plane_exact.specs.Cone.{Cone}
use Rattle.plane_exact.specs.Plane.{GridPoint}
use Rattle.plane_exact.specs.declared.moves.Move.{Move}

-- how deep a height is below the surface: 0 from the surface up
abbrev pub depth_of : ℤ → ℕ
depth_of (pos n) = 0
depth_of (negsuc n) = suc n

-- one of the ends is below the surface
abbrev pub IsDeep : Move → Type 0
IsDeep mv = (0 < depth_of mv.from.h) ⊎ (0 < depth_of mv.to.h)

-- at the depth, in tenths, the bit is wider than its greatest radius, which is in grid units
abbrev pub IsTooWide : Cone → ℕ → Type 0
IsTooWide cone z = 10 * (cone.sd * cone.rmax) < cone.sn * z

-- at one of the ends the bit is wider than its greatest radius
abbrev pub IsTooDeep : Cone → Move → Type 0
IsTooDeep cone mv = IsTooWide cone (depth_of mv.from.h) ⊎ IsTooWide cone (depth_of mv.to.h)

-- the place, in tenths, of the first end that is below the surface; of the last end where none is
abbrev pub first_deep : Move → GridPoint
first_deep mv = if nat_lt 0 (depth_of mv.from.h) then mv.from.at else mv.to.at
