-- The invariants of the loop of `Collected::take_all`.
use Rattle.std.proofs.Common.{◌≡◌, ◌+◌, length}
use Rattle.gcode_text.specs.Collecting.{Continues}
use Rattle.gcode_text.proofs.reader.Collected.take_all.Given as goal

abbrev pub invariant-loop-rest : goal.invariant-loop-rest
invariant-loop-rest l = record {
  units : l.self.stepper.units ≡ l.initial.self.stepper.units;
  fed : l.self.stepper.fed + length l.rest ≡ l.initial.self.stepper.fed + length l.piece;
  moves : Continues l.initial.self l.piece l.self l.rest;
}

abbrev pub decreases-loop-rest : goal.decreases-loop-rest
decreases-loop-rest l = length l.rest
