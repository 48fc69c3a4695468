-- The order in which chains are cut: each once, and always the nearest that is left.
use Rattle.std.specs.Prelude.{◌≡◌, ℕ, ◌≤◌, ℤ, ◌<ℤ◌, ◌⊎◌, List, [], ◌∷◌, length, All, IsPermutation, slice_index_or}
use Rattle.std.specs.List.{range_with_len}
use Rattle.plane_exact.specs.Nodes.{GridNode, first_place, last_place, origin}
use Rattle.plane_exact.specs.Plane.{GridPoint}
use Rattle.plane_exact.specs.Product.{dot_of}

-- the chain of a number
abbrev pub chain_at : List (List GridNode) → ℕ → List GridNode
chain_at chains i = slice_index_or chains i []

-- the squared distance from a place to the beginning of a chain
abbrev pub way_to : List (List GridNode) → GridPoint → ℕ → ℤ
way_to chains place i = dot_of place (first_place (chain_at chains i)) (first_place (chain_at chains i))

-- the way of the first number is shorter than that of the second, or as long and the first number isn't greater
abbrev pub IsBefore : ℤ → ℕ → ℤ → ℕ → Type 0
IsBefore way i other j = (way <ℤ other) ⊎ ((way ≡ other) × (i ≤ j))

-- seen from a place, chain i is cut rather than chain j
abbrev pub IsSooner : List (List GridNode) → GridPoint → ℕ → ℕ → Type 0
IsSooner chains place i j = IsBefore (way_to chains place i) i (way_to chains place j) j

-- from a place on, each chain is sooner than all that stand behind it, seen from where the bit is before it
abbrev pub IsNearestNext : List (List GridNode) → GridPoint → List ℕ → Type 0
IsNearestNext chains place [] = Unit {0}
IsNearestNext chains place (i ∷ order) = All (IsSooner chains place i) order × IsNearestNext chains (last_place (chain_at chains i)) order

-- each chain's number stands in the order once, and each is the nearest of those not yet taken
pub record IsOrder (chains : List (List GridNode)) (order : List ℕ) : Type 0 where
  pub once : IsPermutation (range_with_len 0 (length chains)) order
  pub next : IsNearestNext chains origin order
