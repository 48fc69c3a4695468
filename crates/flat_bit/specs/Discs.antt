-- The moves of a conical bit that remove, of the surface, what a flat bit sweeps along chains.
use Rattle.std.specs.Prelude.{ℕ, List, [], ◌∷◌, flat_map}
use Rattle.plane_exact.specs.Cone.{Cone}
use Rattle.plane_exact.specs.Nodes.{GridNode, node_place}
use Rattle.plane_exact.specs.declared.bit.TheConstants.{MOST_RADIUS}
use Rattle.plane_exact.specs.declared.moves.LineMove.{LineMove}

-- the bit whose radius at each depth is that depth
abbrev pub right_cone : Cone
right_cone = record { sn = 1; sd = 1; rmax = MOST_RADIUS }

-- the place of the node, as deep as the flat bit's radius
abbrev pub at_radius : (radius : ℕ) → GridNode → GridNode
at_radius radius node = record { at = node.at; depth = radius }

-- from a node to the next of others, and from each of these on to the next
abbrev pub moves_from : (radius : ℕ) → GridNode → List GridNode → List LineMove
moves_from radius from [] = []
moves_from radius from (to ∷ nodes) = record { line = 1; mv = record { from = node_place (at_radius radius from); to = node_place (at_radius radius to) } } ∷ moves_from radius to nodes

-- along a chain: a move that stays at its first node, and one from each node to the next
abbrev pub moves_over : (radius : ℕ) → List GridNode → List LineMove
moves_over radius [] = []
moves_over radius (first ∷ rest) = moves_from radius first (first ∷ rest)

-- along all chains
abbrev pub disc_moves : (radius : ℕ) → List (List GridNode) → List LineMove
disc_moves radius chains = flat_map (moves_over radius) chains
