-- Each segment is an edge of the loops once, and there are no other edges.
use Rattle.std.specs.Prelude.{◌≡◌, Bool, ◌&&◌, ◌||◌, List, count_by}
use Rattle.plane_exact.specs.Plane.{GridPoint}
use Rattle.plane_exact.specs.declared.point.Seg.{Seg}
use Rattle.engrave_model.specs.Drawing.{edges_of}
use Rattle.plane_exact.specs.Same.{same_point}

-- the two have the same ends, in the same order or turned round
abbrev pub runs_along : Seg → Seg → Bool
runs_along s e = (same_point s.a e.a && same_point s.b e.b) || (same_point s.a e.b && same_point s.b e.a)

-- as many edges run along each segment as segments do: the same segment may be given more than once
abbrev pub HasEachOnce : List Seg → List (List GridPoint) → Type 0
HasEachOnce segs loops = (s : Seg) → count_by (runs_along s) (edges_of loops) ≡ count_by (runs_along s) segs
