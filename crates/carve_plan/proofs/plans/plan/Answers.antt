-- Answers the goals of `plan`.
use Rattle.std.specs.Prelude.{map}
use Rattle.std.specs.List.{AllZip}
use Rattle.std.proofs.Common.{ap, refl, subst, ◌∙◌}
use Rattle.plane_exact.specs.Nodes.{AreWithinLimits}
use Rattle.path_order.specs.Order.{IsOrder, chain_at}
use Rattle.tangent_disc.specs.Contacts.{AreContacts}
use Rattle.carve_plan.specs.Fault.{IsPlanFault}
use Rattle.carve_plan.specs.Made.{AreStopChains}
use Rattle.carve_plan.specs.Pockets.{IsLimitFault}
use Rattle.carve_plan.specs.Stops.{IsStop}
use Rattle.carve_plan.proofs.Refused.{handed_on, limits_refused, planned}
use Rattle.carve_plan.proofs.plans.plan.Goals as goal

pub returns-in_err-within_limits : goal.returns-in_err-within_limits
returns-in_err-within_limits c =
    let loops = c.args.scene.now in
    let listed = subst (λ drawing. AreContacts drawing c.args.step c.in-Ok.contacts.items) c.drawing.ensures c.in-Ok.ensures.value in
    let each = subst (λ contacts. AllZip (IsStop loops c.args.bit.now c.args.limit) contacts c.in_ok-stops.stops.items) c.deref.ensures.value c.in_ok-stops.ensures in
    let made = subst (λ stops. AreStopChains loops c.args.bit.now c.args.limit stops c.in_ok-chains.chains.items) c.deref-2.ensures.value c.in_ok-chains.ensures in
    let is = subst (λ chains. IsLimitFault chains c.in_err-within_limits.field-0.0) c.deref-3.ensures.value c.in_err-within_limits.ensures in
    handed_on _ (IsPlanFault loops c.args.bit.now c.args.limit c.args.step c.args.pockets) c.from_residual-in_err-within_limits.result c.in_err-within_limits.field-0.0
    c.from_residual-in_err-within_limits.ensures.0 c.from_residual-in_err-within_limits.ensures.1
    (limits_refused loops c.args.bit.now c.args.limit c.args.step c.args.pockets c.in-Ok.contacts.items c.in_ok-stops.stops.items c.in_ok-chains.chains.items
    c.in_ok-pocket.pocket.items c.append.new.chains.items listed each made c.in_ok-pocket.ensures.value c.in_ok-pocket.ensures.few c.in_ok-append.ensures
    c.in_err-within_limits.field-0.0 is)

pub returns : goal.returns
returns c =
    let loops = c.args.scene.now in
    let listed = subst (λ drawing. AreContacts drawing c.args.step c.in-Ok.contacts.items) c.drawing.ensures c.in-Ok.ensures.value in
    let each = subst (λ contacts. AllZip (IsStop loops c.args.bit.now c.args.limit) contacts c.in_ok-stops.stops.items) c.deref.ensures.value c.in_ok-stops.ensures in
    let made = subst (λ stops. AreStopChains loops c.args.bit.now c.args.limit stops c.in_ok-chains.chains.items) c.deref-2.ensures.value c.in_ok-chains.ensures in
    planned loops c.args.bit.now c.args.limit c.args.step c.args.pockets c.in-Ok.contacts.items c.in_ok-stops.stops.items c.in_ok-chains.chains.items
    c.in_ok-pocket.pocket.items c.append.new.chains.items listed each made c.in_ok-pocket.ensures.value c.in_ok-pocket.ensures.few c.in_ok-append.ensures
    c.append.new.chains.items c.in_ok-numbers.numbers.items c.in_ok-in_order.field-0.items refl
    (subst AreWithinLimits c.deref-3.ensures.value c.in_ok-within_limits.ensures)
    (subst (λ cs. IsOrder cs c.in_ok-numbers.numbers.items) c.deref-4.ensures.value c.in_ok-numbers.ensures)
    (c.in_ok-in_order.ensures ∙ ap (map (chain_at c.append.new.chains.items)) c.deref-5.ensures.value)
