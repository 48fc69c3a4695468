-- Nodes of a carved path, the chains that they make, and the moves between them.
use Rattle.std.specs.Prelude.{ℕ, ◌≤◌, List, [], ◌∷◌, length, flat_map, All, ℤ, pos, neg_ℤ, ◌*ℤ◌}
use Rattle.plane_exact.specs.Heights.{GridPlace}
use Rattle.plane_exact.specs.Plane.{GridPoint, IsOnGrid}
use Rattle.plane_exact.specs.declared.moves.TheConstants.{MOST_DEPTH}
use Rattle.plane_exact.specs.declared.node.TheConstants.{MOST_CHAINS, MOST_NODES}

-- a point of the grid, and how deep the bit goes there, in grid units
pub record GridNode : Type 0 where
  pub at : GridPoint
  pub depth : ℕ

-- the ranges of the numbers of a node
pub record IsNode (node : GridNode) : Type 0 where
  pub at : IsOnGrid node.at.x node.at.y
  pub depth : node.depth ≤ MOST_DEPTH

-- nodes in turn, at least one
pub record IsChain (nodes : List GridNode) : Type 0 where
  pub some : 1 ≤ length nodes
  pub each : All IsNode nodes

-- where the bit is before the first chain
abbrev pub origin : GridPoint
origin = record { x = pos 0; y = pos 0 }

-- where a chain begins
abbrev pub first_place : List GridNode → GridPoint
first_place [] = origin
first_place (first ∷ _) = first.at

-- where a chain ends
abbrev pub last_place : List GridNode → GridPoint
last_place [] = origin
last_place (node ∷ []) = node.at
last_place (_ ∷ next ∷ nodes) = last_place (next ∷ nodes)

-- the point at a height, both in tenths of a grid unit
abbrev pub place_over : GridPoint → ℤ → GridPlace
place_over p h = record { at = record { x = pos 10 *ℤ p.x; y = pos 10 *ℤ p.y }; h = pos 10 *ℤ h }

-- where the tip is at the node, in tenths of a grid unit
abbrev pub node_place : GridNode → GridPlace
node_place node = place_over node.at (neg_ℤ (pos node.depth))

-- lists joined end to end
abbrev pub joined : {A : Type 0} → List (List A) → List A
joined parts = flat_map (λ part. part) parts

-- no more chains, and no more nodes in all, than a path may have
pub record AreWithinLimits (chains : List (List GridNode)) : Type 0 where
  pub chains_le : length chains ≤ MOST_CHAINS
  pub nodes_le : length (joined chains) ≤ MOST_NODES
