-- Runs of points in rows, at the pitch of a report.
use Rattle.std.specs.Prelude.{◌≡◌, ℕ, zero, suc, ◌*◌, List, [], ◌∷◌, ℤ, pos, ◌+ℤ◌}
use Rattle.plane_exact.specs.Plane.{GridPoint}
use Rattle.plane_exact.specs.Uncut.{GridRun}
use Rattle.engrave_model.specs.Lists.{AreJoined}

-- so many points of the row y, from x on to the right at this pitch
abbrev pub row_points : (y x : ℤ) (pitch count : ℕ) → List GridPoint
row_points y x pitch zero = []
row_points y x pitch (suc count) = record { x = x; y = y } ∷ row_points y (x +ℤ pos pitch) pitch count

-- the run's points are these: its first, and so many more up to its last
pub record IsRunOf (pitch : ℕ) (run : GridRun) (points : List GridPoint) : Type 0 where
  pub more : ℕ
  pub last : run.x1 ≡ run.x0 +ℤ pos (more * pitch)
  pub are : points ≡ row_points run.y run.x0 pitch (suc more)

-- the points of the runs, run by run, are these
abbrev pub AreRunsOf : (pitch : ℕ) → List GridRun → List GridPoint → Type 0
AreRunsOf pitch [] points = points ≡ []
AreRunsOf pitch (run ∷ runs) points = AreJoined (IsRunOf pitch run) (AreRunsOf pitch runs) points

-- the next run begins with the point behind the last of this one, so that both are one
pub record IsContinued (pitch : ℕ) (run next : GridRun) : Type 0 where
  pub row : run.y ≡ next.y
  pub behind : next.x0 ≡ run.x1 +ℤ pos pitch

-- no run goes on in the next
abbrev pub AreMaximal : (pitch : ℕ) → List GridRun → Type 0
AreMaximal pitch [] = Unit {0}
AreMaximal pitch (run ∷ []) = Unit {0}
AreMaximal pitch (run ∷ next ∷ runs) = (¬ IsContinued pitch run next) × AreMaximal pitch (next ∷ runs)
