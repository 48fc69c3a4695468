-- Points at which an even number of segments end: what a walk needs so that it never gets stuck before its start.
use Rattle.std.specs.Prelude.{◌≡◌, ℕ, ◌+◌, ◌%◌, if◌then◌else◌, List}
use Rattle.plane_exact.specs.Plane.{GridPoint}
use Rattle.plane_exact.specs.declared.point.Seg.{Seg}
use Rattle.plane_exact.specs.Same.{same_point}
use Rattle.loop_join.specs.Ends.{degree}

-- 1 where the points are one, else 0
abbrev pub at : GridPoint → GridPoint → ℕ
at p q = if same_point p q then 1 else 0

-- every point has an even degree
pub record IsEven (segs : List Seg) : Type 0 where
  pub even : (q : GridPoint) → degree segs q % 2 ≡ 0

-- every point would have an even degree with one segment more, from start to p
pub record IsEvenWith (start p : GridPoint) (segs : List Seg) : Type 0 where
  pub even : (q : GridPoint) → (at q start + at q p + degree segs q) % 2 ≡ 0
