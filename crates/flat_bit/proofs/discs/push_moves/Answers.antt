-- Answers the goals of `push_moves`.
use Rattle.std.proofs.Common.{ap}
use Rattle.plane_exact.specs.Nodes.{GridNode}
use Rattle.flat_bit.proofs.PushedMoves.{one_pushed}
use Rattle.flat_bit.proofs.discs.push_moves.Goals as goal

pub loop-node-preserved : goal.loop-node-preserved
loop-node-preserved c =
    let loop = c.loop-node in
    let to = c.at_radius-to.result in
    record {
      deep = ap (λ (n : GridNode). n.depth) c.at_radius-to.ensures;
      moves = one_pushed c.args.radius c.args.nodes.now loop.node-index c.loop-node-test.true loop.from c.node-item.result to c.between.result loop.invariant.deep
          c.node-item.is c.at_radius-to.ensures c.between.ensures loop.moves.items c.push.new.self.items _ c.in_ok-push.ensures.items loop.invariant.moves;
    }
