-- The invariants of the loop of `Judged::take_all`.
use Rattle.std.proofs.Common.{◌≡◌, ◌≤◌, ◌+◌, ◌-◌, ◌++◌, ℕ, List, length, take}
use Rattle.engrave_model.specs.Drawing.{edges_of}
use Rattle.engrave_core.specs.Judging.{IsJudgedTo}
use Rattle.engrave_core.proofs.judged.Judged.take_all.Given as goal

abbrev pub invariant-loop-at : goal.invariant-loop-at
invariant-loop-at l = record {
  within : l.at ≤ length l.piece;
  units : l.self.stepper.units ≡ l.initial.self.stepper.units;
  fed : l.self.stepper.fed ≡ l.initial.self.stepper.fed + l.at;
  judged : (bytes : List ℕ) → IsJudgedTo (edges_of l.scene) l.bit bytes l.initial.self.stepper l.initial.self.verdict l.initial.self.count
      → IsJudgedTo (edges_of l.scene) l.bit (bytes ++ take l.at l.piece) l.self.stepper l.self.verdict l.self.count;
}

abbrev pub decreases-loop-at : goal.decreases-loop-at
decreases-loop-at l = length l.piece - l.at
