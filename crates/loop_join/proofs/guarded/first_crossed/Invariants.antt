-- The invariants of the loop of `first_crossed`.
use Rattle.std.proofs.Common.{ℕ, ◌<◌}
use Rattle.engrave_model.specs.Crossing.{IsCrossPair}
use Rattle.engrave_model.specs.Drawing.{edges_of}
use Rattle.loop_join.proofs.guarded.first_crossed.Given as goal

abbrev pub invariant-loop-j : goal.invariant-loop-j
invariant-loop-j l = (k : ℕ) → k < l.j → ¬ IsCrossPair (edges_of l.d) l.i k
