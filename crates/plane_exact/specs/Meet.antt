-- How two segments meet, by the rational points that both have.
use Rattle.std.specs.Prelude.{◌≡◌, ◌⊎◌, ◌*ℤ◌}
use Rattle.plane_exact.specs.Plane.{RationalPoint, IsBetween, rational}
use Rattle.plane_exact.specs.declared.point.Seg.{Seg}
use Rattle.plane_exact.specs.declared.meet.Meet.{Meet}
use Rattle.plane_exact.specs.declared.meet.Meet.TheVariants.{Apart, AtEnds, Crosses, Overlaps}

-- v and w are one point
pub record IsSame (v w : RationalPoint) : Type 0 where
  pub across : v.x *ℤ w.over ≡ w.x *ℤ v.over
  pub up : v.y *ℤ w.over ≡ w.y *ℤ v.over

-- w is on both segments
pub record IsCommon (s t : Seg) (w : RationalPoint) : Type 0 where
  pub first : IsBetween s.a s.b w
  pub second : IsBetween t.a t.b w

-- w is an end of s
abbrev pub IsEnd : Seg → RationalPoint → Type 0
IsEnd s w = IsSame w (rational s.a) ⊎ IsSame w (rational s.b)

-- w is an end of both segments
abbrev pub IsEndOfBoth : Seg → Seg → RationalPoint → Type 0
IsEndOfBoth s t w = IsEnd s w × IsEnd t w

-- exactly one point is on both segments, and it is one of these
pub record HasOne (s t : Seg) (IsThese : RationalPoint → Type 0) : Type 0 where
  pub point : RationalPoint
  pub common : IsCommon s t point
  pub only : (v : RationalPoint) → IsCommon s t v → IsSame v point
  pub these : IsThese point

-- more than one point is on both segments
pub record HasMore (s t : Seg) : Type 0 where
  pub point : RationalPoint
  pub other : RationalPoint
  pub common : IsCommon s t point
  pub also : IsCommon s t other
  pub differ : ¬ IsSame point other

-- how the segments meet, by each of the answers
abbrev pub IsMeet : Seg → Seg → Meet → Type 0
IsMeet s t Apart = (w : RationalPoint) → ¬ IsCommon s t w
IsMeet s t AtEnds = HasOne s t (IsEndOfBoth s t)
IsMeet s t Crosses = HasOne s t (λ w. ¬ IsEndOfBoth s t w)
IsMeet s t Overlaps = HasMore s t
