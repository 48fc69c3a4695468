-- Answers the goals of `write_nodes`.
use Rattle.std.proofs.Common.{◌++◌, ◌∷◌, [], ap, flat_map, pos, rules, ◌∙◌}
use Rattle.std.proofs.lemmas.List.{get_or_read, take_all}
use Rattle.std.proofs.lemmas.List.Concat.{flat_map_single}
use Rattle.plane_exact.specs.Nodes.{GridNode}
use Rattle.gcode_text.specs.Path.{node_line}
use Rattle.gcode_text.specs.Written.{code_text}
use Rattle.gcode_text.proofs.Growing.{grown}
use Rattle.gcode_text.proofs.writer.write_nodes.Goals as goal

pub loop-node-init : goal.loop-node-init
loop-node-init c = search rules

pub loop-node-preserved : goal.loop-node-preserved
loop-node-preserved c =
    let nodes = c.args.nodes.now in
    let i = c.loop-node.node-index in
    let any : GridNode = record { at = record { x = pos 0; y = pos 0 }; depth = 0 } in
    let read = get_or_read nodes i _ c.loop-node-test.true c.node-item.is any in
    grown (λ node. node_line c.args.units node ∷ []) nodes i any c.args.code.now.items c.loop-node.code.items c.write_node.new.code.items
    c.loop-node-test.true c.loop-node.invariant (c.in_ok-write_node.ensures ∙ ap (λ node. c.loop-node.code.items ++ code_text (node_line c.args.units node ∷ [])) read)

pub returns : goal.returns
returns c =
    c.loop-node.invariant
    ∙ ap (λ nodes. c.args.code.now.items ++ code_text (flat_map (λ node. node_line c.args.units node ∷ []) nodes))
    (take_all c.loop-node.node-index c.args.nodes.now c.loop-node-test.false)
    ∙ ap (λ lines. c.args.code.now.items ++ code_text lines) (flat_map_single (node_line c.args.units) c.args.nodes.now)
