-- The points of the box round strokes at a pitch, and how many of them are cut.
use Rattle.std.specs.Prelude.{ℕ, List}
use Rattle.plane_exact.specs.Cone.{Cone}
use Rattle.plane_exact.specs.Plane.{GridPoint, rational}
use Rattle.plane_exact.specs.declared.point.Seg.{Seg}
use Rattle.coverage_report.specs.Counts.{AreCounts}
use Rattle.coverage_report.specs.Lattices.{IsBoxPoint}
use Rattle.stroke_engrave.specs.Bounds.{IsStrokeBox}
use Rattle.stroke_engrave.specs.Disc.{IsInStrokes}

-- p is in the box, its sides among it, and both its coordinates are multiples of the pitch; without strokes there is no box
pub record IsStrokePoint (cone : Cone) (depth : ℕ) (strokes : List Seg) (pitch : ℕ) (p : GridPoint) : Type 0 where
  pub low : GridPoint
  pub high : GridPoint
  pub box : IsStrokeBox cone depth strokes low high
  pub within : IsBoxPoint low high pitch p

-- so many such points there are, no more than a report may have, and so many of them the bit cuts along the strokes
abbrev pub AreStrokeCounts : Cone → (depth : ℕ) → List Seg → (pitch cut points : ℕ) → Type 0
AreStrokeCounts cone depth strokes pitch cut points = AreCounts (IsStrokePoint cone depth strokes pitch) (λ p. IsInStrokes cone depth strokes (rational p)) cut points
