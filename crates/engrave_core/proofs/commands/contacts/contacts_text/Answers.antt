-- Answers the goals of `contacts_text`.
use Rattle.std.specs.Prelude.{All}
use Rattle.std.proofs.Common.{subst, sym}
use Rattle.tangent_disc.specs.Contacts.{IsContactOf}
use Rattle.engrave_core.proofs.commands.contacts.contacts_text.Goals as goal

pub lines_of-requires-clause-contacts : goal.lines_of-requires-clause-contacts
lines_of-requires-clause-contacts c =
    subst (All (IsContactOf c.args.scene.now)) (sym c.deref.ensures.value)
    (subst (λ loops. All (IsContactOf loops) c.in_ok-contacts.contacts.items) c.drawing.ensures c.in_ok-contacts.ensures.each)
