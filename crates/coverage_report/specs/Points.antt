-- The points of a report: which there are, which of them are marked, which of these aren't cut, and how many.
use Rattle.std.specs.Prelude.{◌≡◌, ◌⊎◌, ℕ, List, length, All, AllPairs, Contains, ◌<ℤ◌}
use Rattle.plane_exact.specs.Plane.{GridPoint, rational}
use Rattle.engrave_model.specs.Drawing.{edges_of}
use Rattle.engrave_model.specs.Inside.{IsInside}
use Rattle.evenodd_region.specs.Bounds.{IsBoxOf, IsInBox, points_of}
use Rattle.depth_rule.specs.Ticks.{IsMultiple}

-- p is in the drawing's bounding box, its sides among it, and both its coordinates are multiples of the pitch
pub record IsReportPoint (loops : List (List GridPoint)) (pitch : ℕ) (p : GridPoint) : Type 0 where
  pub across : IsMultiple pitch p.x
  pub up : IsMultiple pitch p.y
  pub low : GridPoint
  pub high : GridPoint
  pub box : IsBoxOf (points_of loops) low high
  pub within : IsInBox low high p

-- a point that is reported on, and marked
pub record IsMarkedPoint (IsReported IsMarked : GridPoint → Type 0) (p : GridPoint) : Type 0 where
  pub reported : IsReported p
  pub marked : IsMarked p

-- one of these that isn't cut
pub record IsUncutPoint (IsReported IsMarked IsCut : GridPoint → Type 0) (p : GridPoint) : Type 0 where
  pub marked : IsMarkedPoint IsReported IsMarked p
  pub spared : ¬ IsCut p

-- the drawing holds p
abbrev pub IsDrawn : List (List GridPoint) → GridPoint → Type 0
IsDrawn loops p = IsInside (edges_of loops) (rational p)

-- the order of a report: rows upwards, and each row to the right
abbrev pub IsBefore : GridPoint → GridPoint → Type 0
IsBefore p q = (p.y <ℤ q.y) ⊎ ((p.y ≡ q.y) × (p.x <ℤ q.x))

-- the points are all those of which this is so, each once, in the order of a report
pub record AreAll (IsSo : GridPoint → Type 0) (points : List GridPoint) : Type 0 where
  pub each : All IsSo points
  pub complete : (p : GridPoint) → IsSo p → Contains points p
  pub ordered : AllPairs IsBefore points

-- of so many points this is so
pub record IsCount (IsSo : GridPoint → Type 0) (count : ℕ) : Type 0 where
  pub points : List GridPoint
  pub all : AreAll IsSo points
  pub counted : count ≡ length points
