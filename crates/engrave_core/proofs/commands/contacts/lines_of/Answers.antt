-- Answers the goals of `lines_of`.
use Rattle.std.proofs.Common.{◌≡◌, ◌++◌, ◌+◌, get_or, take, refl, ap, append_assoc, subst, sym, ◌∙◌}
use Rattle.std.proofs.lemmas.List.{take_more}
use Rattle.tangent_disc.specs.declared.contact.Contact.{Contact}
use Rattle.engrave_core.specs.Commands.Contacts.{AreContactLines, contact_text, disc_text}
use Rattle.engrave_core.proofs.ContactLines.{line_more}
use Rattle.engrave_core.proofs.commands.contacts.lines_of.Goals as goal

pub loop-contact-preserved : goal.loop-contact-preserved
loop-contact-preserved c =
    let loops = c.args.scene.now in
    let contacts = c.args.contacts.now in
    let i = c.loop-contact.contact-index in
    let any : Contact = record { loop_no = 0; edge = 0; k = 0; n = 0 } in
    let contact = get_or contacts i any in
    let line = contact_text contact ++ disc_text c.tangent.result in
    let text : c.push_disc.new.text.items ≡ c.loop-contact.text.items ++ line =
    c.in_ok-push_disc.ensures ∙ ap (λ t. t ++ disc_text c.tangent.result) c.in_ok-push_contact.ensures ∙ append_assoc c.loop-contact.text.items (contact_text contact) (disc_text c.tangent.result)
    in
    subst (λ text. AreContactLines loops c.args.rmax (take (i + 1) contacts) text) (sym text)
    (subst (λ cs. AreContactLines loops c.args.rmax cs (c.loop-contact.text.items ++ line)) (sym (take_more contacts i any c.loop-contact-test.true))
    (line_more loops c.args.rmax (take i contacts) c.loop-contact.text.items contact line c.loop-contact.invariant
    (record { disc = c.tangent.result; tangent = c.tangent.ensures; is = refl })))
