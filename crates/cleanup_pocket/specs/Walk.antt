-- A walk along a line of places, of which some are good and some are joined to the next.
use Rattle.std.specs.Prelude.{◌≡◌, ℕ, ℤ, pos, ◌+ℤ◌, ◌<ℤ◌, ◌≤ℤ◌}
use Rattle.cleanup_pocket.specs.Runs.{Run}

-- the place is the first good one from x on
pub record IsFirstGood (IsGood : ℤ → Type 0) (x place : ℤ) : Type 0 where
  pub from : x ≤ℤ place
  pub bad : (t : ℤ) → x ≤ℤ t → t <ℤ place → ¬ IsGood t
  pub good : IsGood place

-- from the place x on all are joined up to this one, which isn't joined to the next
pub record IsLastJoined (IsJoined : ℤ → Type 0) (x place : ℤ) : Type 0 where
  pub order : x ≤ℤ place
  pub joined : (t : ℤ) → x ≤ℤ t → t <ℤ place → IsJoined t
  pub apart : ¬ IsJoined place

-- the next run from x on
pub record IsRunFrom (IsGood IsJoined : ℤ → Type 0) (x : ℤ) (run : Run) : Type 0 where
  pub begins : IsFirstGood IsGood x run.first
  pub ends : IsLastJoined IsJoined run.first run.last

-- no place from x on is good
abbrev pub IsNoneGood : (IsGood : ℤ → Type 0) → (x : ℤ) → Type 0
IsNoneGood IsGood x = (t : ℤ) → x ≤ℤ t → ¬ IsGood t

-- so many places from x on aren't good; where none is counted, x is good
pub record IsBadAhead (IsGood : ℤ → Type 0) (x : ℤ) (n : ℕ) : Type 0 where
  pub bad : (t : ℤ) → x ≤ℤ t → t <ℤ (x +ℤ pos n) → ¬ IsGood t
  pub good : n ≡ 0 → IsGood x

-- so many places from x on are joined to the next
abbrev pub AreJoinedFrom : (IsJoined : ℤ → Type 0) → (x : ℤ) → ℕ → Type 0
AreJoinedFrom IsJoined x n = (t : ℤ) → x ≤ℤ t → t <ℤ (x +ℤ pos n) → IsJoined t

-- so many places from x on are joined; where none is counted, x isn't
pub record IsJoinedAhead (IsJoined : ℤ → Type 0) (x : ℤ) (n : ℕ) : Type 0 where
  pub joined : AreJoinedFrom IsJoined x n
  pub apart : n ≡ 0 → ¬ IsJoined x

-- the place is strictly between the ends
pub record IsInner (low high place : ℤ) : Type 0 where
  pub from : low <ℤ place
  pub to : place <ℤ high

-- each good place is strictly between the ends
abbrev pub IsBounded : (IsGood : ℤ → Type 0) → (low high : ℤ) → Type 0
IsBounded IsGood low high = (place : ℤ) → IsGood place → IsInner low high place
