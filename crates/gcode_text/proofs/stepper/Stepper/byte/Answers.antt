-- Answers the goals of `Stepper::byte`.
use Rattle.std.proofs.Common.{◌+◌, ◌<◌, ◌++◌, ◌∷◌, [], sym, ap, subst, ◌∙◌}
use Rattle.gcode_text.specs.Stepping.{IsAfter, next}
use Rattle.gcode_text.specs.declared.state.TheConstants.{MOST_CODE_BYTES}
use Rattle.gcode_text.proofs.Stepped.{IsAfter-next, IsNext-next, IsWithin-next}
use Rattle.gcode_text.proofs.Reported.{failed_is, moved_is}
use Rattle.gcode_text.proofs.stepper.Stepper.byte.Goals as goal

pub invariant_of-self : goal.invariant_of-self
invariant_of-self c =
    let room : c.self.inside.state.fed < MOST_CODE_BYTES = rw c.self.view_is c.requires in
    rw c.step.ensures.next (IsWithin-next c.self.inside.state c.args.byte c.self.invariant room)

pub returns-clause-units : goal.returns-clause-units
returns-clause-units c =
    rw c.step.ensures.next ((IsNext-next c.self.inside.state c.args.byte).units ∙ ap (λ s. s.units) c.self.view_is)

pub returns-clause-fed : goal.returns-clause-fed
returns-clause-fed c =
    rw c.step.ensures.next ((IsNext-next c.self.inside.state c.args.byte).fed ∙ ap (λ s. s.fed + 1) c.self.view_is)

pub returns-clause-stands : goal.returns-clause-stands
returns-clause-stands c = λ bytes is_after.
    let is = c.step.ensures.next ∙ ap (λ s. next s c.args.byte) c.self.view_is in
    subst (IsAfter (bytes ++ c.args.byte ∷ [])) (sym is) (IsAfter-next c.args.self.now c.args.byte bytes is_after)

pub returns-clause-moves : goal.returns-clause-moves
returns-clause-moves c =
    rw (c.step.ensures.turn, c.self.view_is) (moved_is c.args.self.now c.args.byte)

pub returns-clause-fault : goal.returns-clause-fault
returns-clause-fault c =
    rw (c.step.ensures.turn, c.self.view_is) (failed_is c.args.self.now c.args.byte)
