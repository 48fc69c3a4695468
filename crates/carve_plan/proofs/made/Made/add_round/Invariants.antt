-- The invariant of the loop of `Made::add_round`.
use Rattle.std.proofs.Common.{◌≤◌, [], ◌∷◌, ◌++◌, drop}
use Rattle.engrave_model.specs.Drawing.{edges_of}
use Rattle.carve_plan.specs.Made.{nodes_of}
use Rattle.carve_plan.proofs.Going.{IsPartly}
use Rattle.carve_plan.proofs.made.Made.add_round.Given as goal

abbrev pub invariant-loop-stop : goal.invariant-loop-stop
invariant-loop-stop l = record {
  partly : IsPartly (edges_of l.scene) l.bit l.limit l.first (nodes_of l.others ++ l.first ∷ []) (nodes_of (drop l.stop-index l.others) ++ l.first ∷ []) l.at
      l.fn.self.chains.items l.self l.chain;
  few : l.self.nodes ≤ 4194304;
}
