-- The invariants of the loop of `lines_of`.
use Rattle.std.proofs.Common.{take}
use Rattle.engrave_core.specs.Commands.Contacts.{AreContactLines}
use Rattle.engrave_core.proofs.commands.contacts.lines_of.Given as goal

abbrev pub invariant-loop-contact : goal.invariant-loop-contact
invariant-loop-contact l = AreContactLines l.scene l.rmax (take l.contact-index l.contacts) l.text.items
