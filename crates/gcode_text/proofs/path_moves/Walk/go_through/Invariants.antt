-- The invariant of the loop of `Walk::go_through`.
use Rattle.std.proofs.Common.{◌≡◌, ◌++◌, ◌∷◌, [], flat_map, take}
use Rattle.plane_exact.specs.Nodes.{node_place}
use Rattle.gcode_text.proofs.path_moves.Walk.go_through.Given as goal

abbrev pub invariant-loop-node : goal.invariant-loop-node
invariant-loop-node l = l.self ≡ l.initial.self ++ flat_map (λ node. node_place node ∷ []) (take l.node-index l.nodes)
