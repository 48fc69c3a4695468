-- Answers the goals of `append_contacts`.
use Rattle.tangent_disc.proofs.Listing.{one_more}
use Rattle.tangent_disc.proofs.listed.append_contacts.Goals as goal

pub loop-k-preserved : goal.loop-k-preserved
loop-k-preserved c = one_more c.args.loop_no c.args.edge c.args.n c.loop-k.k c.args.contacts.now.items c.loop-k.contacts.items _ c.loop-k.invariant c.in_ok-push.ensures.items
