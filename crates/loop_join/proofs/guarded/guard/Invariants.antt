-- The invariants of the loop of `guard`.
use Rattle.std.proofs.Common.{ℕ, ◌<◌}
use Rattle.engrave_model.specs.Crossing.{IsCrossPair}
use Rattle.engrave_model.specs.Drawing.{edges_of}
use Rattle.loop_join.proofs.guarded.guard.Given as goal

abbrev pub invariant-loop-i : goal.invariant-loop-i
invariant-loop-i l = (k j : ℕ) → k < l.i → ¬ IsCrossPair (edges_of l.d) k j
