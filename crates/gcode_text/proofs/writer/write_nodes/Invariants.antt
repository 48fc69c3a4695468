-- The invariant of the loop of `write_nodes`.
use Rattle.std.proofs.Common.{◌≡◌, ◌++◌, ◌∷◌, [], flat_map, take}
use Rattle.gcode_text.specs.Path.{node_line}
use Rattle.gcode_text.specs.Written.{code_text}
use Rattle.gcode_text.proofs.writer.write_nodes.Given as goal

abbrev pub invariant-loop-node : goal.invariant-loop-node
invariant-loop-node l = l.code.items ≡ l.initial.code.items ++ code_text (flat_map (λ node. node_line l.units node ∷ []) (take l.node-index l.nodes))
