-- How deep the bit may go at a point: the disc it cuts, the depths that fit, and the greatest of them.
use Rattle.std.specs.Prelude.{◌≡◌, ℕ, ◌*◌, ◌≤◌, ◌⊎◌, List, ℤ, pos, ◌*ℤ◌, ◌<ℤ◌}
use Rattle.plane_exact.specs.Plane.{GridPoint, RationalPoint, IsBetween, rational}
use Rattle.plane_exact.specs.Cone.{Cone}
use Rattle.plane_exact.specs.declared.point.Seg.{Seg}
use Rattle.plane_exact.specs.Distance.{IsCloser}
use Rattle.engrave_model.specs.Inside.{IsOnOutline, IsInside}

-- w is in the open disc that the bit cuts at the surface over p at the depth z / over
pub record IsInDisc (cone : Cone) (p : RationalPoint) (z over : ℤ) (w : RationalPoint) : Type 0 where
  pub deep : pos 0 <ℤ z
  pub close : IsCloser (pos cone.sn *ℤ z) (pos cone.sd *ℤ over) p w

-- the bit's disc over p at the whole depth z holds no point of the edge
unfoldable pub IsEdgeClear : Cone → GridPoint → ℕ → Seg → Type 0
IsEdgeClear cone p z e = (w : RationalPoint) → IsBetween e.a e.b w → ¬ IsInDisc cone (rational p) (pos z) (pos 1) w

-- the bit's disc over p at the whole depth z holds no point of any edge
unfoldable pub IsDiscClear : List Seg → Cone → GridPoint → ℕ → Type 0
IsDiscClear edges cone p z = (w : RationalPoint) → IsOnOutline edges w → ¬ IsInDisc cone (rational p) (pos z) (pos 1) w

-- at p the bit may go to the depth z without its disc meeting an edge
pub record IsClearDepth (edges : List Seg) (cone : Cone) (limit : ℕ) (p : GridPoint) (z : ℕ) : Type 0 where
  pub narrow : cone.sn * z ≤ cone.sd * cone.rmax
  pub allowed : z ≤ limit
  pub inside : IsInside edges (rational p)
  pub clear : IsDiscClear edges cone p z

-- the depth 0 fits everywhere
abbrev pub Fits : List Seg → Cone → ℕ → GridPoint → ℕ → Type 0
Fits edges cone limit p z = (z ≡ 0) ⊎ IsClearDepth edges cone limit p z

-- z is the greatest depth that fits at p
pub record IsGreatestDepth (edges : List Seg) (cone : Cone) (limit : ℕ) (p : GridPoint) (z : ℕ) : Type 0 where
  pub fits : Fits edges cone limit p z
  pub greatest : (y : ℕ) → Fits edges cone limit p y → y ≤ z
