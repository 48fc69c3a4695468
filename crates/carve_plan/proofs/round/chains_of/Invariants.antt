-- The invariant and the measure of the loop of `chains_of`.
use Rattle.std.proofs.Common.{length}
use Rattle.carve_plan.specs.Made.{IsCounted}
use Rattle.carve_plan.proofs.Rounding.{AreMade}
use Rattle.carve_plan.proofs.round.chains_of.Given as goal

abbrev pub invariant-loop-first : goal.invariant-loop-first
invariant-loop-first l = record {
  made : AreMade l.scene l.bit l.limit l.stops l.left l.made.chains.items;
  counted : IsCounted l.made.nodes l.made.chains.items;
}

abbrev pub decreases-loop-first : goal.decreases-loop-first
decreases-loop-first l = length l.left
