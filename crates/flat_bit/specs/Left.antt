-- The points of the floor that a flat bit leaves.
use Rattle.std.specs.Prelude.{◌≡◌, ℕ, ◌*◌, ◌≤◌, List, All, Any, pos, ◌*ℤ◌}
use Rattle.plane_exact.specs.Cone.{Cone}
use Rattle.plane_exact.specs.Distance.{IsCloser}
use Rattle.plane_exact.specs.Nodes.{GridNode}
use Rattle.plane_exact.specs.Plane.{GridPoint, RationalPoint, rational}
use Rattle.plane_exact.specs.Uncut.{UncutPoints}
use Rattle.plane_exact.specs.declared.moves.LineMove.{LineMove}
use Rattle.plane_exact.specs.declared.moves.Move.{Move}
use Rattle.engrave_model.specs.Depth.{IsGreatestDepth}
use Rattle.engrave_model.specs.Drawing.{edges_of}
use Rattle.engrave_model.specs.Removal.{Moment, depth_at, place_at, tenfold}
use Rattle.depth_rule.specs.Deepest.{deepest_of}
use Rattle.coverage_report.specs.Points.{IsReportPoint}
use Rattle.coverage_report.specs.Report.{IsReportBy}

-- p is over the floor: the deepest allowed depth, which isn't 0, is the greatest that fits there
pub record IsFloorPoint (loops : List (List GridPoint)) (cone : Cone) (limit : ℕ) (p : GridPoint) : Type 0 where
  pub deep : 1 ≤ deepest_of cone limit
  pub greatest : IsGreatestDepth (edges_of loops) cone limit p (deepest_of cone limit)

-- At the moment the bit's tip is at this depth, in grid units, and its axis nearer to w than its radius. Moves are in tenths.
pub record IsSweptAt (radius depth : ℕ) (mv : Move) (w : RationalPoint) (s : Moment) : Type 0 where
  pub level : depth_at mv s ≡ pos (10 * depth) *ℤ s.n
  pub close : IsCloser (pos (10 * radius)) (pos 1) (place_at mv s) (tenfold w)

-- at some moment of the move
pub record Sweeps (radius depth : ℕ) (w : RationalPoint) (mv : Move) : Type 0 where
  pub moment : Moment
  pub swept : IsSweptAt radius depth mv w moment

-- some move sweeps p's point of the floor
abbrev pub IsSwept : (radius depth : ℕ) → List LineMove → GridPoint → Type 0
IsSwept radius depth moves p = Any (λ move. Sweeps radius depth (rational p) move.mv) moves

-- The report on the floor that a program leaves: of the points of the drawing's report those over the floor, and which of them no moment
-- of its moves at the floor's depth sweeps.
abbrev pub IsFloorReport : List (List GridPoint) → Cone → (limit radius : ℕ) → List LineMove → (pitch : ℕ) → UncutPoints → Type 0
IsFloorReport loops cone limit radius moves pitch left =
    IsReportBy (IsReportPoint loops pitch) (IsFloorPoint loops cone limit) (IsSwept radius (deepest_of cone limit) moves) pitch left

-- all nodes of the chains are at this depth
abbrev pub AreLevel : (depth : ℕ) → List (List GridNode) → Type 0
AreLevel depth chains = All (All (λ node. node.depth ≡ depth)) chains
