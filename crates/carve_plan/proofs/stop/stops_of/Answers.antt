-- Answers the goals of `stops_of`.
use Rattle.carve_plan.specs.Stops.{IsStop}
use Rattle.carve_plan.proofs.Lists.{zip_more}
use Rattle.carve_plan.proofs.stop.stops_of.Goals as goal

pub loop-contact-preserved : goal.loop-contact-preserved
loop-contact-preserved c =
    zip_more (IsStop c.args.scene.now c.args.bit.now c.args.limit) c.args.contacts.now c.loop-contact.contact-index _ c.loop-contact.stops.items c.stop_at.result _
    c.loop-contact-test.true c.loop-contact.invariant c.stop_at.ensures c.in_ok-push.ensures.items
