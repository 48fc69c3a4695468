-- Answers the goals of `in_order`.
use Rattle.std.proofs.Common.{ap, arith, set}
use Rattle.carve_plan.proofs.Taking.{chain_there, is_there, none_taken, number_below, one_taken, slot_full}
use Rattle.carve_plan.proofs.chains.in_order.Goals as goal

pub loop-number-init : goal.loop-number-init
loop-number-init c =
    none_taken c.args.chains.items c.args.order.now c.requires.once c.in_ok-slots.slots.items c.in_ok-plan.plan.items c.in_ok-slots.ensures c.in_ok-plan.ensures.items

pub index_mut-requires : goal.index_mut-requires
index_mut-requires c =
    let size = c.loop-number.invariant.size in
    let below = number_below c.args.chains.items c.args.order.now c.requires.once c.loop-number.number-index 0 c.loop-number-test.true in
    omega (arith, c.loop-number.slots.ok.0)

pub unreachable-requires : goal.unreachable-requires
unreachable-requires c =
    let chains = c.args.chains.items in
    let order = c.args.order.now in
    let taken = c.loop-number.invariant in
    let size = taken.size in
    let below = number_below chains order c.requires.once c.loop-number.number-index 0 c.loop-number-test.true in
    slot_full chains c.loop-number.slots.items _ _ c.index_mut.result.now c.take.result (omega arith) c.index_mut.ensures.value c.take.ensures.value c.in-None.is
    (is_there chains order c.requires.once c.loop-number.number-index 0 c.loop-number.slots.items c.loop-number.plan.items c.loop-number-test.true taken)

pub loop-number-preserved : goal.loop-number-preserved
loop-number-preserved c =
    let chains = c.args.chains.items in
    let order = c.args.order.now in
    let slots = c.loop-number.slots.items in
    let taken = c.loop-number.invariant in
    let size = taken.size in
    let below = number_below chains order c.requires.once c.loop-number.number-index 0 c.loop-number-test.true in
    let there = is_there chains order c.requires.once c.loop-number.number-index 0 slots c.loop-number.plan.items c.loop-number-test.true taken in
    one_taken chains order c.requires.once c.loop-number.number-index 0 slots _ c.loop-number.plan.items _ c.in-Some.chain c.loop-number-test.true taken
    (ap (set slots _) c.take.ensures.after) c.in_ok-push-in-Some.ensures.items
    (chain_there chains slots _ _ c.index_mut.result.now c.take.result c.in-Some.chain (omega arith) c.index_mut.ensures.value c.take.ensures.value c.in-Some.is there)
