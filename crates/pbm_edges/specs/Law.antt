-- What the runs of the boundary are: the longest ones of a line, in order.
use Rattle.std.specs.Prelude.{◌≡◌, ◌≢◌, ℕ, ◌-◌, ◌<◌, ◌≤◌, List, [], ◌∷◌, ◌⊎◌}
use Rattle.std.specs.List.{AllByRecursion}
use Rattle.pbm_edges.specs.Boundary.{runs_of, side_at, sides_along}
use Rattle.pbm_edges.specs.Pixels.{Pixels}
use Rattle.pbm_edges.specs.declared.side.Line.{Line}
use Rattle.pbm_edges.specs.declared.side.Side.{Side}
use Rattle.pbm_edges.specs.declared.side.Side.TheVariants.{Level}
use Rattle.pbm_edges.specs.declared.side.Stretch.{Stretch}

-- a longest run of sides of the boundary that run one way, among so many on a line
pub record IsRun (side_of : ℕ → Side) (count : ℕ) (run : Stretch) : Type 0 where
  pub some : run.first < run.until
  pub on : run.until ≤ count
  pub boundary : run.side ≢ Level
  pub same : (i : ℕ) → run.first ≤ i → i < run.until → side_of i ≡ run.side
  pub before : 1 ≤ run.first → side_of (run.first - 1) ≢ run.side
  pub behind : run.until < count → side_of run.until ≢ run.side

-- the side at this place is in one of the runs
abbrev pub IsCovered : ℕ → List Stretch → Type 0
IsCovered i [] = ⊥
IsCovered i (run ∷ runs) = ((run.first ≤ i) × (i < run.until)) ⊎ IsCovered i runs

-- each run begins where the one before it ends or behind that
abbrev pub Ascends : (least : ℕ) → List Stretch → Type 0
Ascends least [] = Unit {0}
Ascends least (run ∷ runs) = (least ≤ run.first) × Ascends run.until runs

-- the runs are all the longest ones of a line, in order; so each side of the boundary is in exactly one of them
pub record AreTheRuns (side_of : ℕ → Side) (count : ℕ) (runs : List Stretch) : Type 0 where
  pub each : AllByRecursion (IsRun side_of count) runs
  pub ascending : Ascends 0 runs
  pub all : (i : ℕ) → i < count → side_of i ≢ Level → IsCovered i runs

-- the runs of each line are the longest ones of the boundary on it
abbrev pub BoundaryLaw : Type 0
BoundaryLaw = (image : Pixels) (line : Line) → AreTheRuns (side_at image line) (sides_along image line) (runs_of image line)
