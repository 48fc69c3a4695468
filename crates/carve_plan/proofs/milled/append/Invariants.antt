-- The invariant of the loop of `append`.
use Rattle.std.proofs.Common.{◌≡◌, ◌++◌}
use Rattle.carve_plan.proofs.milled.append.Given as goal

abbrev pub invariant-loop-chain : goal.invariant-loop-chain
invariant-loop-chain l = l.chains.items ≡ l.fn.chains.items ++ l.yielded
