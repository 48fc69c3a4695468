-- How loose segments become closed loops, step by step. The segments that are left stand in their order, so that the first of them
-- is the one of the lowest number.
use Rattle.std.specs.Prelude.{◌≡◌, ◌≢◌, Some, List, [], ◌∷◌, ◌++◌}
use Rattle.std.specs.List.{find}
use Rattle.plane_exact.specs.Plane.{GridPoint}
use Rattle.plane_exact.specs.declared.point.Seg.{Seg}
use Rattle.loop_join.specs.Ends.{has_end, other_end, without_first}

-- A walk that began along a segment from start to first, when the segments segs were unused. It has passed the points, is at p
-- now, and has left some segments unused. At each point but the start it takes the first unused segment that ends there, to its
-- other end.
pub data IsWalk (start first : GridPoint) (segs : List Seg) : List GridPoint → GridPoint → List Seg → Type 0 where
  begun : IsWalk start first segs [] first segs
  taken : {points : List GridPoint} {p : GridPoint} {unused : List Seg} (s : Seg) → IsWalk start first segs points p unused → p ≢ start → find (has_end p) unused ≡ Some s → IsWalk start first segs (points ++ p ∷ []) (other_end p s) (without_first p unused)

-- The loops that were taken so far, and the segments that are still unused. The next loop begins with the first of them, from its a
-- to its b, and ends where its walk is back at the start; its points are the start and those that the walk passed.
pub data AreLoops (segs : List Seg) : List (List GridPoint) → List Seg → Type 0 where
  none_yet : AreLoops segs [] segs
  closed : {loops : List (List GridPoint)} {s : Seg} {unused rest : List Seg} {points : List GridPoint} → AreLoops segs loops (s ∷ unused) → IsWalk s.a s.b unused points s.a rest → AreLoops segs (loops ++ (s.a ∷ points) ∷ []) rest

-- the loops that are taken until no segment is unused
abbrev pub IsJoin : List Seg → List (List GridPoint) → Type 0
IsJoin segs loops = AreLoops segs loops []

-- the points of a loop that begins along the segment s, as far as the place p, and what it leaves unused
pub record IsLoopFrom (s : Seg) (segs : List Seg) (points : List GridPoint) (p : GridPoint) (unused : List Seg) : Type 0 where
  pub walked : List GridPoint
  pub begins : points ≡ s.a ∷ walked
  pub walk : IsWalk s.a s.b segs walked p unused
