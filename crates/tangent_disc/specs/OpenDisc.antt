-- Open discs with a rational centre, and the edges that they hold no point of.
use Rattle.std.specs.Prelude.{ℤ, ◌*ℤ◌, ◌≤ℤ◌}
use Rattle.plane_exact.specs.Distance.{square, scaled_distance}
use Rattle.plane_exact.specs.Plane.{RationalPoint, IsBetween}
use Rattle.plane_exact.specs.declared.point.Seg.{Seg}
use Rattle.tangent_disc.specs.declared.open_disc.OpenDisc.{OpenDisc}

-- the disc's centre
abbrev pub centre_of : OpenDisc → RationalPoint
centre_of d = record { x = d.x; y = d.y; over = d.over; positive = d.range.some }

-- no point of the edge is in the open disc about v whose radius squared is reach / v.over^2
unfoldable pub IsOff : RationalPoint → ℤ → Seg → Type 0
IsOff v reach e = (w : RationalPoint) → IsBetween e.a e.b w → (reach *ℤ square w.over) ≤ℤ scaled_distance v w
