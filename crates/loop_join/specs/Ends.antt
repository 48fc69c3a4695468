-- The ends of segments, and how many of them are at a point.
use Rattle.std.specs.Prelude.{◌≡◌, ◌==◌, ℕ, ◌%◌, Bool, ◌||◌, if◌then◌else◌, Option, List, [], ◌∷◌, ◌++◌, All, count_by, flat_map}
use Rattle.std.specs.List.{find}
use Rattle.plane_exact.specs.Plane.{GridPoint}
use Rattle.plane_exact.specs.declared.point.Seg.{Seg}
use Rattle.plane_exact.specs.Same.{same_point}

-- the segment ends at the point
abbrev pub has_end : GridPoint → Seg → Bool
has_end p s = same_point p s.a || same_point p s.b

-- the end of a segment that is reached from its end at p
abbrev pub other_end : GridPoint → Seg → GridPoint
other_end p s = if same_point p s.a then s.b else s.a

-- the segments without the first that ends at the point
abbrev pub without_first : GridPoint → List Seg → List Seg
without_first p [] = []
without_first p (s ∷ segs) = if has_end p s then segs else s ∷ without_first p segs

-- the ends in the order of the segments, a before b
abbrev pub ends_of : List Seg → List GridPoint
ends_of segs = flat_map (λ s. s.a ∷ s.b ∷ []) segs

-- the degree of a point: how many ends of segments are there
abbrev pub degree : List Seg → GridPoint → ℕ
degree segs p = count_by (same_point p) (ends_of segs)

-- the degree of the point is odd
abbrev pub is_odd : List Seg → GridPoint → Bool
is_odd segs p = degree segs p % 2 == 1

-- the first point of odd degree, in the order of the ends
unfoldable pub open_point : List Seg → Option GridPoint
open_point segs = find (is_odd segs) (ends_of segs)

-- the point is the first of odd degree: those of all ends before it are even
pub record IsFirstOpen (segs : List Seg) (p : GridPoint) : Type 0 where
  pub before : List GridPoint
  pub after : List GridPoint
  pub ends : ends_of segs ≡ before ++ p ∷ after
  pub odd : degree segs p % 2 ≡ 1
  pub even_before : All (λ q. degree segs q % 2 ≡ 0) before
