-- Answers the goals of `Stepper::end`.
use Rattle.std.proofs.Common.{sym, ap, ◌∙◌}
use Rattle.gcode_text.specs.Stepping.{last_move, moves_at_end, moves_reported, start_of}
use Rattle.gcode_text.proofs.Stepped.{moves_of-steps}
use Rattle.gcode_text.proofs.stepper.Stepper.end.Goals as goal

pub returns-clause-moves : goal.returns-clause-moves
returns-clause-moves c = λ bytes is_after.
    let units = c.args.self.units in
    let reported = moves_reported (start_of units) bytes in
    let last = ap last_move (sym c.self.view_is) ∙ sym c.end.ensures in
    moves_of-steps units bytes ∙ ap (λ s. moves_at_end reported (last_move s)) (sym is_after) ∙ ap (moves_at_end reported) last
