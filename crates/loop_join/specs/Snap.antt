-- Points that are near each other made one: each becomes the earliest near it of those that are kept.
use Rattle.std.specs.Prelude.{ℕ, Bool, ◌&&◌, if◌then◌else◌, Option, List, [], ◌∷◌, ◌++◌, ◌-ℤ◌, find, is_some, nat_le, unsigned_abs, unwrap_or}
use Rattle.plane_exact.specs.Same.{same_point}
use Rattle.plane_exact.specs.Plane.{GridPoint}
use Rattle.plane_exact.specs.declared.point.Seg.{Seg}

-- the points differ by at most t in each coordinate
abbrev pub is_near : ℕ → GridPoint → GridPoint → Bool
is_near t p q = nat_le (unsigned_abs (p.x -ℤ q.x)) t && nat_le (unsigned_abs (p.y -ℤ q.y)) t

-- the earliest kept point that is near p
abbrev pub earliest_near : ℕ → List GridPoint → GridPoint → Option GridPoint
earliest_near t kept p = find (is_near t p) kept

-- what p becomes: that point, or p itself where there is none
abbrev pub snapped : ℕ → List GridPoint → GridPoint → GridPoint
snapped t kept p = unwrap_or (earliest_near t kept p) p

-- the points that are kept after p: it is one of them where no earlier one is near it
abbrev pub keep : ℕ → List GridPoint → GridPoint → List GridPoint
keep t kept p = if is_some (earliest_near t kept p) then kept else kept ++ p ∷ []

-- a segment before others, unless its ends are one point
abbrev pub unless_dropped : Seg → List Seg → List Seg
unless_dropped s segs = if same_point s.a s.b then segs else s ∷ segs

-- the segments in order, a before b, after the points that were kept before them
abbrev pub snap_from : ℕ → List GridPoint → List Seg → List Seg
snap_from t kept [] = []
snap_from t kept (s ∷ segs) =
    let with_a = keep t kept s.a in
    unless_dropped (record { a = snapped t kept s.a; b = snapped t with_a s.b }) (snap_from t (keep t with_a s.b) segs)

-- what snapping makes of segments: nothing is kept before the first
unfoldable pub snap_of : ℕ → List Seg → List Seg
snap_of t segs = snap_from t [] segs
