-- Answers the goals of `listed`.
use Rattle.std.proofs.Common.{refl}
use Rattle.tangent_disc.proofs.Listing.{edge_more, edges_all}
use Rattle.tangent_disc.proofs.listed.listed.Goals as goal

pub loop-e-preserved : goal.loop-e-preserved
loop-e-preserved c =
    edge_more c.args.d.now c.args.pieces.now c.loop-e.e c.loop_of.result _ c.loop-e.contacts.items _ c.loop-e-test.true c.loop_of.ensures refl c.loop-e.invariant c.in_ok-append_contacts.ensures

pub returns-clause-value : goal.returns-clause-value
returns-clause-value c = edges_all c.args.d.now c.args.pieces.now c.loop-e.e c.loop-e.contacts.items c.loop-e-test.false c.loop-e.invariant
