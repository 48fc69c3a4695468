-- Answers the goals of `Reader::finish`.
use Rattle.std.proofs.Common.{◌∙◌, subst, sym}
use Rattle.std.proofs.lemmas.Result.{IfOk-weaker}
use Rattle.gcode_text.specs.Reading.{HasFault}
use Rattle.gcode_text.proofs.Collects.{IfErr-weaker, collects}
use Rattle.gcode_text.proofs.reader.Reader.finish.Goals as goal

pub returns-clause-moves : goal.returns-clause-moves
returns-clause-moves c =
    rw (← c.self.view_is) (IfOk-weaker c.finish.result _ _ (λ moves here bytes stands. collects bytes _ stands ∙ here) c.finish.ensures.moves)

pub returns-clause-fault : goal.returns-clause-fault
returns-clause-fault c =
    rw (← c.self.view_is) (IfErr-weaker c.finish.result _ _ (λ fault here bytes stands. subst (HasFault fault) (sym (collects bytes _ stands)) here) c.finish.ensures.fault)
