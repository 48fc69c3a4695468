-- Answers the goals of `count_nodes`.
use Rattle.std.proofs.Common.{◌<◌, ◌-◌, arith, subst, ap, ◌∙◌, length}
use Rattle.plane_exact.specs.declared.node.TheConstants.{MOST_NODES}
use Rattle.carve_plan.proofs.Totals.{all_counted, nodes_more, too_many}
use Rattle.carve_plan.proofs.limits.count_nodes.Goals as goal

pub overflow_sub-count : goal.overflow_sub-count
overflow_sub-count c = c.loop-chain.invariant.few

pub returns-then-more-count : goal.returns-then-more-count
returns-then-more-count c =
    let more = subst (λ chain. MOST_NODES - c.loop-chain.count < length chain) (c.nodes-more.ensures.nodes ∙ c.chain-item.is) c.if-more-count.true in
    too_many c.args.chains.now c.loop-chain.chain-index c.chain-item.result c.loop-chain.count c.loop-chain-test.true c.loop-chain.invariant.counted more

pub loop-chain-preserved : goal.loop-chain-preserved
loop-chain-preserved c =
    let one = nodes_more c.args.chains.now c.loop-chain.chain-index c.chain-item.result c.loop-chain-test.true in
    let same = ap length (c.nodes-more.ensures.nodes ∙ c.chain-item.is) in
    let counted = c.loop-chain.invariant.counted in
    let few = c.loop-chain.invariant.few in
    let less = c.if-more-count.false in
    record { counted = omega (arith, one, same, counted); few = omega (arith, few, less) }

pub returns : goal.returns
returns c =
    all_counted c.args.chains.now c.loop-chain.chain-index c.loop-chain.count c.loop-chain-test.false c.loop-chain.invariant.counted c.loop-chain.invariant.few
