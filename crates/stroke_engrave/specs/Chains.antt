-- The chains of strokes: each goes on along the strokes as long as they follow each other, all at one depth.
use Rattle.std.specs.Prelude.{ℕ, List, [], ◌∷◌, if◌then◌else◌}
use Rattle.plane_exact.specs.Nodes.{GridNode}
use Rattle.plane_exact.specs.Plane.{GridPoint}
use Rattle.plane_exact.specs.Same.{same_point}
use Rattle.plane_exact.specs.declared.point.Seg.{Seg}

-- the node at the point, at this depth
abbrev pub node_at : (depth : ℕ) → GridPoint → GridNode
node_at depth p = record { at = p; depth = depth }

-- The nodes that these strokes add to a chain that ends at `end`, and the chains behind it. A stroke that begins where the chain ends
-- adds its end to the chain; another begins a chain with both its ends.
abbrev pub going_on : (depth : ℕ) → (end : GridPoint) → List Seg → List GridNode × List (List GridNode)
going_on depth end [] = ([], [])
going_on depth end (stroke ∷ strokes) =
    let rest = going_on depth stroke.b strokes in
    if same_point stroke.a end then (node_at depth stroke.b ∷ rest.0, rest.1) else ([], (node_at depth stroke.a ∷ node_at depth stroke.b ∷ rest.0) ∷ rest.1)

-- the chains of the strokes, in order: the first stroke begins one
abbrev pub chains_of : (depth : ℕ) → List Seg → List (List GridNode)
chains_of depth [] = []
chains_of depth (stroke ∷ strokes) =
    let rest = going_on depth stroke.b strokes in
    (node_at depth stroke.a ∷ node_at depth stroke.b ∷ rest.0) ∷ rest.1
