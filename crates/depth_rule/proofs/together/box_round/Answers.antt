-- Answers the goals of `box_round`.
use Rattle.depth_rule.proofs.Following.{held_more}
use Rattle.depth_rule.proofs.together.box_round.Goals as goal

pub loop-edge-preserved : goal.loop-edge-preserved
loop-edge-preserved c =
    held_more c.args.edges.now c.loop-edge.edge-index c.edge-item.result c.loop-edge.q c.widened.result c.widened-q.result c.loop-edge-test.true c.edge-item.is
    c.widened.ensures.kept c.widened.ensures.held c.widened-q.ensures.kept c.widened-q.ensures.held c.loop-edge.invariant
