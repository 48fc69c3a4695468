-- A binary tree of boxes over slots: below node i are the nodes 2 i and 2 i + 1, and its last nodes are the slots.
use Rattle.std.specs.Prelude.{◌≡◌, ℕ, zero, suc, ◌+◌, ◌*◌, ◌/◌, ◌<◌, ◌≤◌, ◌⊎◌, List, Option, None, Some, length, slice_index_or}
use Rattle.path_order.specs.Extents.{Holds, IsInside}
use Rattle.path_order.specs.declared.entry.Entry.{Entry}
use Rattle.path_order.specs.declared.extent.Extent.{Extent}
use Rattle.plane_exact.specs.declared.node.TheConstants.{MOST_CHAINS}

-- a number halved so many times
abbrev pub halved : ℕ → ℕ → ℕ
halved zero i = i
halved (suc k) i = halved k (i / 2)

-- the slot is below the node, where there are so many slots
abbrev pub IsBelow : ℕ → ℕ → ℕ → Type 0
IsBelow slots node slot = (k : ℕ) × (halved k (slots + slot) ≡ node)

-- the two nodes below one, in some order
abbrev pub AreChildren : ℕ → ℕ → ℕ → Type 0
AreChildren node a b = ((a ≡ 2 * node) × (b ≡ 2 * node + 1)) ⊎ ((a ≡ 2 * node + 1) × (b ≡ 2 * node))

-- the box holds what is in the slot
abbrev pub HoldsSlot : Extent → Option Entry → Type 0
HoldsSlot extent None = Unit {0}
HoldsSlot extent (Some e) = Holds extent e

-- a box for each node, and that of a slot's node holds what is in it
pub record HaveLeaves (slots : List (Option Entry)) (extents : List Extent) : Type 0 where
  pub few : length slots ≤ MOST_CHAINS
  pub size : length extents ≡ 2 * length slots
  pub leaves : (j : ℕ) (d : Extent) → j < length slots → HoldsSlot (slice_index_or extents (length slots + j) d) (slice_index_or slots j None)

-- from a node on, the boxes of the nodes below are inside its box
pub record IsIndexFrom (from : ℕ) (slots : List (Option Entry)) (extents : List Extent) : Type 0 where
  pub at : HaveLeaves slots extents
  pub inner : (i : ℕ) (d : Extent) → from ≤ i / 2 → i < length extents → IsInside (slice_index_or extents i d) (slice_index_or extents (i / 2) d)

-- the same from the first node on
abbrev pub IsIndex : List (Option Entry) → List Extent → Type 0
IsIndex = IsIndexFrom 1
