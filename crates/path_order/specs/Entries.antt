-- Chains as the search for the nearest one sees them: by their numbers and where they begin.
use Rattle.std.specs.Prelude.{◌≡◌, ℕ, ◌<◌, List, ◌∷◌, length, map, All, IsPermutation}
use Rattle.std.specs.List.{range_with_len}
use Rattle.plane_exact.specs.Nodes.{GridNode, first_place}
use Rattle.plane_exact.specs.Plane.{GridPoint}
use Rattle.plane_exact.specs.Product.{dot_of}
use Rattle.path_order.specs.Order.{IsBefore, chain_at}
use Rattle.path_order.specs.declared.entry.Entry.{Entry}

-- the entry of a chain
abbrev pub entry_of : List (List GridNode) → ℕ → Entry
entry_of chains i = record { at = first_place (chain_at chains i); number = i }

-- seen from a place, the first entry's chain is cut rather than the second's
abbrev pub IsBeforeEntry : GridPoint → Entry → Entry → Type 0
IsBeforeEntry place e f = IsBefore (dot_of place e.at e.at) e.number (dot_of place f.at f.at) f.number

-- the entry of a chain there is
pub record IsEntryOf (chains : List (List GridNode)) (e : Entry) : Type 0 where
  pub there : e.number < length chains
  pub at : e.at ≡ first_place (chain_at chains e.number)

-- the chains' numbers
abbrev pub numbers_of : List Entry → List ℕ
numbers_of entries = map (λ (e : Entry). e.number) entries

-- each chain has its entry, once
pub record AreAllEntries (chains : List (List GridNode)) (entries : List Entry) : Type 0 where
  pub once : IsPermutation (range_with_len 0 (length chains)) (numbers_of entries)
  pub each : All (IsEntryOf chains) entries

-- the entry of this number is taken out, and is before all others, seen from the place
pub record TakesNearest (place : GridPoint) (old new : List Entry) (number : ℕ) : Type 0 where
  pub entry : Entry
  pub is : entry.number ≡ number
  pub taken : IsPermutation old (entry ∷ new)
  pub nearest : All (IsBeforeEntry place entry) old
