-- The invariant of the loop of `in_order`.
use Rattle.carve_plan.proofs.Taking.{AreTaken}
use Rattle.carve_plan.proofs.chains.in_order.Given as goal

abbrev pub invariant-loop-number : goal.invariant-loop-number
invariant-loop-number l = AreTaken l.fn.chains.items l.order l.number-index l.slots.items l.plan.items
