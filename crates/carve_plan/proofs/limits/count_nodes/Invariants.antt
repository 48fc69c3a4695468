-- The invariant of the loop of `count_nodes`.
use Rattle.std.proofs.Common.{◌≡◌, ◌≤◌}
use Rattle.plane_exact.specs.declared.node.TheConstants.{MOST_NODES}
use Rattle.carve_plan.proofs.Totals.{nodes_before}
use Rattle.carve_plan.proofs.limits.count_nodes.Given as goal

abbrev pub invariant-loop-chain : goal.invariant-loop-chain
invariant-loop-chain l = record { counted : l.count ≡ nodes_before l.chain-index l.chains; few : l.count ≤ MOST_NODES }
