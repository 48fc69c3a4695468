-- The invariant of the loop of `Made::follow`.
use Rattle.std.proofs.Common.{◌≡◌, List, ◌++◌, drop}
use Rattle.link_split.specs.declared.step.Step.{Step}
use Rattle.carve_plan.specs.Made.{made_after}
use Rattle.carve_plan.proofs.made.Made.follow.Given as goal

abbrev pub invariant-loop-step : goal.invariant-loop-step
invariant-loop-step l = record {
  made : (rest : List Step) → made_after l.fn.self l.fn.chain (l.steps ++ rest) ≡ made_after l.self l.chain (drop l.step-index l.steps ++ rest);
  unchanged : l.self.nodes ≡ l.fn.self.nodes;
}
