-- How unused segments are kept: each in the slot of its number, and their ends in order.
use Rattle.std.specs.Prelude.{◌≡◌, ℕ, ◌<◌, ◌≤◌, Bool, true, false, Option, Some, None, IsSome, List, length, slice_index_or}
use Rattle.std.specs.BTreeSet.{BTreeSet, contains}
use Rattle.std.specs.BTreeMap.Range.{IsLeBy}
use Rattle.std.specs.List.{filter_map}
use Rattle.std.specs.Ordering.{int_cmp, nat_cmp, ordering_then}
use Rattle.std.specs.declared.cmp.Ordering.{Ordering}
use Rattle.plane_exact.specs.Plane.{GridPoint}
use Rattle.plane_exact.specs.declared.point.Seg.{Seg}
use Rattle.engrave_model.specs.Drawing.{most_edges}
use Rattle.loop_join.specs.Ends.{has_end}
use Rattle.loop_join.specs.declared.ends.End.{End}

-- the order of ends: by their points, and at one point by the numbers of their segments
abbrev pub end_cmp : End → End → Ordering
end_cmp a b = ordering_then (int_cmp a.x b.x) (ordering_then (int_cmp a.y b.y) (nat_cmp a.number b.number))

-- the end at the point of the segment with this number
abbrev pub end_of : GridPoint → ℕ → End
end_of p number = record { x = p.x; y = p.y; number = number }

-- the segment of this number has an end at the point
abbrev pub has_number : BTreeSet End → GridPoint → ℕ → Bool
has_number ends p number = contains end_cmp ends (end_of p number)

-- the first of the ends that aren't before the given one
abbrev pub IsLeastFrom : BTreeSet End → End → Option End → Type 0
IsLeastFrom ends from None = (q : End) → IsLeBy end_cmp from q → contains end_cmp ends q ≡ false
IsLeastFrom ends from (Some e) = (contains end_cmp ends e ≡ true)
    × IsLeBy end_cmp from e
    × ((q : End) → IsLeBy end_cmp from q → contains end_cmp ends q ≡ true → IsLeBy end_cmp e q)

-- the lowest number of a segment that ends at the point
abbrev pub IsLeastNumber : BTreeSet End → GridPoint → Option ℕ → Type 0
IsLeastNumber ends p None = (k : ℕ) → has_number ends p k ≡ false
IsLeastNumber ends p (Some number) = (has_number ends p number ≡ true)
    × ((k : ℕ) → k < number → has_number ends p k ≡ false)

-- the slot has a segment that ends at the point
abbrev pub is_end_in : GridPoint → Option Seg → Bool
is_end_in p None = false
is_end_in p (Some s) = has_end p s

-- the segments in slots
abbrev pub unused_in : List (Option Seg) → List Seg
unused_in slots = filter_map (λ slot. slot) slots

-- the ends are those of the segments in slots, under the numbers of the slots
abbrev pub AreIndexed : List (Option Seg) → BTreeSet End → Type 0
AreIndexed slots ends = (p : GridPoint) (k : ℕ) → has_number ends p k ≡ is_end_in p (slice_index_or slots k None)

-- the first slot with a segment
abbrev pub IsFirstFilled : List (Option Seg) → Option ℕ → Type 0
IsFirstFilled slots None = (j : ℕ) → slice_index_or slots j None ≡ None
IsFirstFilled slots (Some number) = IsSome (slice_index_or slots number None)
    × ((j : ℕ) → j < number → slice_index_or slots j None ≡ None)

-- the ends are those of the segments in slots, and the slots before the given one are empty
pub record IsIndex (slots : List (Option Seg)) (ends : BTreeSet End) (from : ℕ) : Type 0 where
  pub few : length slots ≤ most_edges
  pub indexed : AreIndexed slots ends
  pub none_before : (j : ℕ) → j < from → slice_index_or slots j None ≡ None
