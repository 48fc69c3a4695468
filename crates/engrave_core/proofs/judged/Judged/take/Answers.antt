-- Answers the goals of `Judged::take`.
use Rattle.std.proofs.Common.{◌≡◌, [], inl, inr, sym, ap, ◌∙◌}
use Rattle.engrave_model.specs.Drawing.{edges_of}
use Rattle.gcode_text.specs.Stepping.{and_turn}
use Rattle.engrave_core.proofs.JudgedCode.{moved, unmoved}
use Rattle.engrave_core.proofs.judged.Judged.take.Goals as goal

pub returns-in-Moved-clause-judged : goal.returns-in-Moved-clause-judged
returns-in-Moved-clause-judged c = λ bytes judged.
    let fed = c.byte.ensures in
    moved (edges_of c.args.scene.now) c.args.bit.now _ _ fed.units bytes c.args.byte c.in-Moved.mv _ _ _
    (sym c.in-Moved.is ∙ fed.turn) (fed.stands bytes judged.stands) c.next_verdict-self.ensures.law judged

pub returns-in-Nothing-clause-judged : goal.returns-in-Nothing-clause-judged
returns-in-Nothing-clause-judged c = λ bytes judged.
    let fed = c.byte.ensures in
    let none : and_turn c.byte.result [] ≡ [] =
    elim c.in-Nothing.is [ inl is ↦ ap (λ report. and_turn report []) is | inr is ↦ ap (λ report. and_turn report []) is.1 ] in
    unmoved (edges_of c.args.scene.now) c.args.bit.now _ _ fed.units bytes c.args.byte c.byte.result _ _
    fed.turn none (fed.stands bytes judged.stands) judged
