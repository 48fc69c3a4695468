-- Answers the goals of `extents_of`.
use Rattle.std.proofs.Common.{◌-◌, arith}
use Rattle.path_order.proofs.Indexes.{all_drawn, drawn_more, none_drawn}
use Rattle.path_order.proofs.build.extents_of.Goals as goal

pub loop-node-init : goal.loop-node-init
loop-node-init c = record { indexed = none_drawn c.args.slots.now c.in_ok-extents.extents.items c.in_ok-extents.ensures; node = omega arith }

pub loop-node-preserved : goal.loop-node-preserved
loop-node-preserved c =
    let old = c.loop-node.invariant in
    let node = c.loop-node.node in
    let far = c.loop-node-test.true in
    record {
      indexed = drawn_more c.args.slots.now c.loop-node.extents.items node (node - 1) c.index.result.now c.index-in-loop-node.result.now c.join.result old.indexed (omega arith) (omega arith) old.node
          c.index.ensures c.index-in-loop-node.ensures c.join.ensures.first c.join.ensures.second;
      node = omega arith;
    }

pub returns : goal.returns
returns c = all_drawn c.args.slots.now c.loop-node.extents.items c.loop-node.node c.loop-node-test.false c.loop-node.invariant.indexed
