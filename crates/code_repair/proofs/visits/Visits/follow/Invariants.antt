-- What the loop of `follow` keeps.
use Rattle.std.proofs.Common.{◌≡◌, ◌≤◌, ◌+◌, drop}
use Rattle.engrave_model.specs.Drawing.{edges_of}
use Rattle.code_repair.specs.Walk.{IsLed}
use Rattle.code_repair.proofs.visits.Visits.follow.Given as goal

abbrev pub invariant-loop-line_move : goal.invariant-loop-line_move
invariant-loop-line_move l = record {
  led : IsLed (edges_of l.scene) l.bit l.initial.self l.moves (drop l.line_move-index l.moves) l.self;
  counted : l.self.changed ≤ l.initial.self.changed + l.line_move-index;
  safe : l.self.safe ≡ l.initial.self.safe;
}
