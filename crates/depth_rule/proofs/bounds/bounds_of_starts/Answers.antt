-- Answers the goals of `bounds_of_starts`.
use Rattle.std.proofs.Common.{arith}
use Rattle.depth_rule.proofs.Boxes.{box_more, box_of_all}
use Rattle.depth_rule.proofs.bounds.bounds_of_starts.Goals as goal

pub loop-edge-preserved : goal.loop-edge-preserved
loop-edge-preserved c =
    box_more c.args.edges.now c.loop-edge.edge-index c.loop-edge.low c.loop-edge.high c.lower_left-low.result c.upper_right-high.result c.edge-item.result
    c.loop-edge-test.true c.edge-item.is
    c.lower_left-low.ensures.across c.lower_left-low.ensures.up c.upper_right-high.ensures.across c.upper_right-high.ensures.up
    c.loop-edge.invariant

pub returns : goal.returns
returns c = box_of_all c.args.edges.now c.loop-edge.edge-index c.loop-edge.low c.loop-edge.high (omega arith) c.loop-edge.invariant
