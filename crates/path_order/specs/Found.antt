-- What a search for the nearest chain has found so far.
use Rattle.std.specs.Prelude.{◌≡◌, ℕ, ◌<◌, List, Option, None, Some, length, slice_index_or}
use Rattle.plane_exact.specs.Plane.{GridPoint}
use Rattle.plane_exact.specs.Product.{dot_of}
use Rattle.path_order.specs.Order.{IsBefore}
use Rattle.path_order.specs.declared.entry.Entry.{Entry}
use Rattle.path_order.specs.declared.found.Found.{Found}

-- it is the entry of its slot, with the way to it
pub record IsFoundIn (place : GridPoint) (slots : List (Option Entry)) (found : Found) : Type 0 where
  pub entry : Entry
  pub there : found.slot < length slots
  pub is : slice_index_or slots found.slot None ≡ Some entry
  pub way : found.way ≡ dot_of place entry.at entry.at
  pub number : found.number ≡ entry.number

-- the best so far, if there is one, is in its slot
abbrev pub IsKnown : GridPoint → List (Option Entry) → Option Found → Type 0
IsKnown place slots None = Unit {0}
IsKnown place slots (Some found) = IsFoundIn place slots found

-- the best so far comes before the entry
abbrev pub IsNoLater : GridPoint → Option Found → Entry → Type 0
IsNoLater place None e = ⊥
IsNoLater place (Some found) e = IsBefore found.way found.number (dot_of place e.at e.at) e.number

-- the result is the first of the best so far and of the entries of those slots
pub record IsNearestOf (place : GridPoint) (slots : List (Option Entry)) (IsAsked : ℕ → Type 0) (best result : Option Found) : Type 0 where
  pub known : IsKnown place slots result
  pub kept : (e : Entry) → IsNoLater place best e → IsNoLater place result e
  pub each : (j : ℕ) (e : Entry) → IsAsked j → j < length slots → slice_index_or slots j None ≡ Some e → IsNoLater place result e
