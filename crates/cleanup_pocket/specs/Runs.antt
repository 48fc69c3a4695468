-- The longest runs of places on a line, each of which is joined to the next.
use Rattle.std.specs.Prelude.{ℤ, pos, ◌-ℤ◌, ◌<ℤ◌, ◌≤ℤ◌, List, All, AllPairs, Any}

-- successive places of a line, from the first to the last
pub record Run : Type 0 where
  pub first : ℤ
  pub last : ℤ

-- the place is one of the run
pub record IsOfRun (place : ℤ) (run : Run) : Type 0 where
  pub from : run.first ≤ℤ place
  pub to : place ≤ℤ run.last

-- a run that can't be longer: its places are good, each is joined to the next, and no end is joined to the place beyond it
pub record IsLongest (IsGood IsJoined : ℤ → Type 0) (run : Run) : Type 0 where
  pub order : run.first ≤ℤ run.last
  pub good : (place : ℤ) → IsOfRun place run → IsGood place
  pub joined : (place : ℤ) → run.first ≤ℤ place → place <ℤ run.last → IsJoined place
  pub before : ¬ IsJoined (run.first -ℤ pos 1)
  pub behind : ¬ IsJoined run.last

-- the first run ends before the second begins
abbrev pub IsBefore : Run → Run → Type 0
IsBefore run later = run.last <ℤ later.first

-- the longest runs of a line in ascending order; each good place is of one of them. That a place is joined says that it is good, that
-- the next one is, and that the two belong together.
pub record AreRuns (IsGood IsJoined : ℤ → Type 0) (runs : List Run) : Type 0 where
  pub each : All (IsLongest IsGood IsJoined) runs
  pub complete : (place : ℤ) → IsGood place → Any (IsOfRun place) runs
  pub ordered : AllPairs IsBefore runs
