-- Answers the goals of `Walk::go_through`.
use Rattle.std.proofs.Common.{ap, arith, length, map, take, length-append}
use Rattle.std.proofs.lemmas.List.{length-map, length-take}
use Rattle.std.proofs.lemmas.List.Concat.{flat_map_single}
use Rattle.plane_exact.specs.Nodes.{node_place}
use Rattle.gcode_text.proofs.path_moves.Walk.go_through.Goals as goal

pub go_to-requires : goal.go_to-requires
go_to-requires c =
    let gone = take c.loop-node.node-index c.args.nodes.now in
    let count = ap length (flat_map_single node_place gone) in
    omega (arith, c.requires, ap length c.loop-node.invariant, length-append c.args.self.now (map node_place gone), count, length-map gone node_place, length-take c.loop-node.node-index c.args.nodes.now, c.loop-node-test.true)
