-- The chains over a floor: the ways by which it is milled, row by row or column by column. Where a bit may be, and from which place it may go
-- to the next, is what a floor says.
use Rattle.std.specs.Prelude.{◌≡◌, ◌≢◌, ◌⊎◌, ℕ, ℤ, pos, ◌+ℤ◌, ◌<ℤ◌, ◌≤ℤ◌, int_lt, if◌then◌else◌, List, [], ◌∷◌, map, All, AllPairs, Contains}
use Rattle.std.specs.List.{AllZip}
use Rattle.plane_exact.specs.Nodes.{GridNode, joined}
use Rattle.plane_exact.specs.Plane.{GridPoint}
use Rattle.engrave_model.specs.Lists.{AreJoined}
use Rattle.evenodd_region.specs.Bounds.{IsBoxOf, points_of}
use Rattle.depth_rule.specs.Ticks.{IsMultiple}
use Rattle.cleanup_pocket.specs.Runs.{AreRuns, Run}
use Rattle.cleanup_pocket.specs.declared.axis.Axis.{Axis}
use Rattle.cleanup_pocket.specs.declared.axis.Axis.TheVariants as axis
use Rattle.cleanup_pocket.specs.declared.axis.Way.{Way}
use Rattle.cleanup_pocket.specs.declared.axis.Way.TheVariants as way

-- ---- a line of grid points: a row, or a column

-- the point of a line at this place: lines along x are rows, those along y are columns
abbrev pub point_on : Axis → (line place : ℤ) → GridPoint
point_on axis.X line place = record { x = place; y = line }
point_on axis.Y line place = record { x = line; y = place }

-- the line of a point
abbrev pub line_of : Axis → GridPoint → ℤ
line_of axis.X p = p.y
line_of axis.Y p = p.x

-- the place of a point on its line
abbrev pub place_of : Axis → GridPoint → ℤ
place_of axis.X p = p.x
place_of axis.Y p = p.y

-- the node of a line at this place, at this depth
abbrev pub node_on : Axis → (line : ℤ) → (depth : ℕ) → (place : ℤ) → GridNode
node_on axis line depth place = record { at = point_on axis line place; depth = depth }

-- what a floor says of each place of each line
abbrev pub OfPlaces : Type 1
OfPlaces = Axis → (line place : ℤ) → Type 0

-- the place and the next are good, and the bit may go from the one to the other
pub record IsJoinedBy (IsGood IsWay : OfPlaces) (axis : Axis) (line place : ℤ) : Type 0 where
  pub this : IsGood axis line place
  pub next : IsGood axis line (place +ℤ pos 1)
  pub way : IsWay axis line place

-- the chain along a run: from its first place to its last, or its one place
abbrev pub chain_along : Axis → (line : ℤ) → (depth : ℕ) → Run → List GridNode
chain_along axis line depth run =
    let first = node_on axis line depth run.first in
    if int_lt run.first run.last then first ∷ node_on axis line depth run.last ∷ [] else first ∷ []

-- the chains along the runs of a line at this depth, in ascending order
pub record AreLineChains (IsGood IsWay : OfPlaces) (depth : ℕ) (axis : Axis) (line : ℤ) (chains : List (List GridNode)) : Type 0 where
  pub runs : List Run
  pub are_runs : AreRuns (IsGood axis line) (IsJoinedBy IsGood IsWay axis line) runs
  pub along : chains ≡ map (chain_along axis line depth) runs

-- ---- all lines

-- a line from `low` to `high` whose coordinate is a multiple of `over`
pub record IsLine (low high : ℤ) (over : ℕ) (line : ℤ) : Type 0 where
  pub multiple : IsMultiple over line
  pub from : low ≤ℤ line
  pub to : line ≤ℤ high

-- all these lines, each once, in ascending order
pub record AreLines (low high : ℤ) (over : ℕ) (lines : List ℤ) : Type 0 where
  pub each : All (IsLine low high over) lines
  pub complete : (line : ℤ) → IsLine low high over line → Contains lines line
  pub ordered : AllPairs (λ line next. line <ℤ next) lines

-- the chains of all lines along an axis between two points, line by line
pub record AreAxisChains (IsGood IsWay : OfPlaces) (depth over : ℕ) (low high : GridPoint) (axis : Axis) (chains : List (List GridNode)) : Type 0 where
  pub lines : List ℤ
  pub all : AreLines (line_of axis low) (line_of axis high) over lines
  pub parts : List (List (List GridNode))
  pub each : AllZip (AreLineChains IsGood IsWay depth axis) lines parts
  pub are : chains ≡ joined parts

-- the chains of rows, of columns, or of rows and then of columns
abbrev pub AreWayChains : (IsGood IsWay : OfPlaces) → (depth over : ℕ) → (low high : GridPoint) → Way → List (List GridNode) → Type 0
AreWayChains IsGood IsWay depth over low high way.X chains = AreAxisChains IsGood IsWay depth over low high axis.X chains
AreWayChains IsGood IsWay depth over low high way.Y chains = AreAxisChains IsGood IsWay depth over low high axis.Y chains
AreWayChains IsGood IsWay depth over low high way.Both chains =
    AreJoined (AreAxisChains IsGood IsWay depth over low high axis.X) (AreAxisChains IsGood IsWay depth over low high axis.Y) chains

-- ---- the floor of a drawing

-- there is nothing to mill: no depth is allowed, or the drawing is empty
pub record IsUnmilled (depth : ℕ) (loops : List (List GridPoint)) (chains : List (List GridNode)) : Type 0 where
  pub nothing : (depth ≡ 0) ⊎ (points_of loops ≡ [])
  pub none : chains ≡ []

-- the chains of the lines through the drawing's bounding box
pub record IsMilled (IsGood IsWay : OfPlaces) (depth : ℕ) (loops : List (List GridPoint)) (over : ℕ) (way : Way) (chains : List (List GridNode)) : Type 0 where
  pub deep : depth ≢ 0
  pub low : GridPoint
  pub high : GridPoint
  pub box : IsBoxOf (points_of loops) low high
  pub lines : AreWayChains IsGood IsWay depth over low high way chains

-- the chains of the drawing's floor at this depth, by lines that are multiples of `over`
abbrev pub AreFloorChains : (IsGood IsWay : OfPlaces) → (depth : ℕ) → List (List GridPoint) → (over : ℕ) → Way → List (List GridNode) → Type 0
AreFloorChains IsGood IsWay depth loops over way chains = IsUnmilled depth loops chains ⊎ IsMilled IsGood IsWay depth loops over way chains
