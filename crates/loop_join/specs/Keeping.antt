-- Points that are kept, and where they are found.
use Rattle.std.specs.Prelude.{◌≡◌, ℕ, ◌+◌, ◌<◌, ◌≤◌, true, List, length, Some, All, IfSome, option_and_then, slice_index_or}
use Rattle.std.specs.BTreeMap.{BTreeMap, get, values}
use Rattle.std.specs.List.{slice_get}
use Rattle.std.specs.Ordering.{nat_cmp}
use Rattle.std.specs.Prelude.{Option, None}
use Rattle.plane_exact.specs.Plane.{GridPoint, IsOnGrid}
use Rattle.loop_join.specs.Cells.{cell_of, strip_of}
use Rattle.loop_join.specs.Snap.{earliest_near, is_near}

-- the kept points in order, and how near is near
pub record KeptPoints : Type 0 where
  pub tolerance : ℕ
  pub points : List GridPoint

-- the square of each point has the point's number
pub record AreIndexed (t : ℕ) (points : List GridPoint) (cells : BTreeMap ℕ ℕ) : Type 0 where
  pub numbers : All (λ n. n < length points) (values cells)
  pub indexed : (i : ℕ) (d : GridPoint) → i < length points → get nat_cmp cells (cell_of t (slice_index_or points i d)) ≡ Some i
  pub on_grid : All (λ p. IsOnGrid p.x p.y) points

-- the kept point of number k is near p
pub record IsNearAt (t : ℕ) (points : List GridPoint) (p : GridPoint) (k : ℕ) : Type 0 where
  pub point : GridPoint
  pub is_point : slice_get points k ≡ Some point
  pub near : is_near t p point ≡ true

-- there is a number, and it is at most k
abbrev pub AtMost : Option ℕ → ℕ → Type 0
AtMost None k = ⊥
AtMost (Some n) k = n ≤ k

-- of the kept points of the column, in the row or beside it, none that is near p has a number below the found one
abbrev pub IsLeastOfColumn : ℕ → List GridPoint → GridPoint → ℕ → ℕ → Option ℕ → Type 0
IsLeastOfColumn t points p column row found =
    (k : ℕ) (q : GridPoint) → slice_get points k ≡ Some q → is_near t p q ≡ true → strip_of t q.x ≡ column → row ≤ strip_of t q.y + 1 → strip_of t q.y ≤ row + 1 → AtMost found k

-- the number is that of the earliest kept point near p, where there is one
pub record IsEarliest (t : ℕ) (points : List GridPoint) (p : GridPoint) (number : Option ℕ) : Type 0 where
  pub near : IfSome number (λ k. IsNearAt t points p k)
  pub earliest : earliest_near t points p ≡ option_and_then (slice_get points) number
