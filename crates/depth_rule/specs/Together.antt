-- Points and edges within a box.
use Rattle.std.specs.Prelude.{◌≤ℤ◌}
use Rattle.plane_exact.specs.Plane.{GridPoint}
use Rattle.plane_exact.specs.declared.point.Seg.{Seg}
use Rattle.lane_kernels.specs.declared.boxes.Rect.{Rect}

-- the box holds the point
pub record IsInRect (q : Rect) (p : GridPoint) : Type 0 where
  pub left : q.x0 ≤ℤ p.x
  pub right : p.x ≤ℤ q.x1
  pub low : q.y0 ≤ℤ p.y
  pub high : p.y ≤ℤ q.y1

-- the box holds the edge
abbrev pub IsHeldIn : Rect → Seg → Type 0
IsHeldIn q e = IsInRect q e.a × IsInRect q e.b
