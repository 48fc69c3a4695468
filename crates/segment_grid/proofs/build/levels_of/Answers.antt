-- With the edge of this number the levels have one edge more.
use Rattle.std.proofs.Common.{◌<◌, length, ap, arith}
use Rattle.segment_grid.proofs.AddedEntries.{one_more}
use Rattle.segment_grid.proofs.build.levels_of.Goals as goal

pub loop-number-preserved : goal.loop-number-preserved
loop-number-preserved c =
    let number = c.loop-number.number in
    let edges = c.all_edges-edges.result.now in
    let lt : number < length edges = omega (arith, c.loop-number-test.true, c.edges-number-end.ensures.count, ap length c.all_edges-edges.ensures.edges) in
    one_more edges number c.index-edges-number.result c.box_of.result c.loop-number.levels.items c.add_edge.new.levels.items
    lt c.index-edges-number.is c.box_of.ensures c.in_ok-add_edge.ensures c.loop-number.invariant
