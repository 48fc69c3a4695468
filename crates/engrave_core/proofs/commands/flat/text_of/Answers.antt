-- Answers the goals of `text_of`.
use Rattle.std.specs.Prelude.{map}
use Rattle.std.proofs.Common.{◌≡◌, ◌≤◌, ap, inl, length, subst, sym, ◌∙◌}
use Rattle.flat_bit.specs.Left.{IsFloorReport}
use Rattle.gcode_text.specs.Path.{chain_moves}
use Rattle.path_order.specs.Order.{IsOrder, chain_at}
use Rattle.plane_exact.specs.declared.node.TheConstants.{MOST_CHAINS}
use Rattle.engrave_core.specs.Commands.Flat.{IsMilledOrRefused}
use Rattle.engrave_core.specs.Refusals.{cover_refusal, mill_refusal}
use Rattle.engrave_core.proofs.Done.{refused_is_answered}
use Rattle.engrave_core.proofs.FloorPrograms.{level, milled, unmilled, unreported}
use Rattle.engrave_core.proofs.commands.flat.text_of.Goals as goal

pub returns-in_err-chains-clause-value : goal.returns-in_err-chains-clause-value
returns-in_err-chains-clause-value c =
    refused_is_answered _ (IsMilledOrRefused c.args.job.now c.args.milling.now c.args.pitch c.args.scene.now) c.from_residual.result (mill_refusal c.in_err-chains.field-0.0)
    c.from_residual.ensures.0 c.from_residual.ensures.1
    (unmilled c.args.job.now c.args.milling.now c.args.pitch c.args.scene.now c.in_err-chains.field-0.0 c.in_err-chains.ensures.value)

pub order-requires : goal.order-requires
order-requires c = subst (λ chains. length chains ≤ MOST_CHAINS) (sym c.deref.ensures.value) c.in_ok-chains.ensures.few

pub floor_left-requires-clause-level : goal.floor_left-requires-clause-level
floor_left-requires-clause-level c =
    let chains = c.in_ok-chains.chains.items in
    let numbers = c.in_ok-numbers.numbers.items in
    let ordered = subst (λ chains. IsOrder chains numbers) c.deref.ensures.value c.in_ok-numbers.ensures in
    level c.args.job.now c.args.milling.now c.args.pitch c.args.scene.now chains c.in_ok-chains.ensures.value c.in_ok-chains.ensures.few numbers ordered c.deref-3.result.now
    (c.deref-3.ensures.value ∙ c.in_ok-ordered.ensures ∙ ap (map (chain_at chains)) c.deref-2.ensures.value)

pub returns-in_err-left-clause-value : goal.returns-in_err-left-clause-value
returns-in_err-left-clause-value c =
    refused_is_answered _ (IsMilledOrRefused c.args.job.now c.args.milling.now c.args.pitch c.args.scene.now) c.from_residual-in_err-left.result (cover_refusal c.in_err-left.field-0.0)
    c.from_residual-in_err-left.ensures.0 c.from_residual-in_err-left.ensures.1
    (unreported c.args.job.now c.args.milling.now c.args.pitch c.args.scene.now c.in_ok-chains.chains.items c.in_err-left.field-0.0 c.in_ok-chains.ensures.value c.in_ok-chains.ensures.few
    c.in_err-left.ensures)

pub returns-clause-value : goal.returns-clause-value
returns-clause-value c =
    let chains = c.in_ok-chains.chains.items in
    let numbers = c.in_ok-numbers.numbers.items in
    let ordered = subst (λ chains. IsOrder chains numbers) c.deref.ensures.value c.in_ok-numbers.ensures in
    inl (milled c.args.job.now c.args.milling.now c.args.pitch c.args.scene.now chains c.in_ok-chains.ensures.value c.in_ok-chains.ensures.few numbers ordered c.deref-4.result.now
    c.in_ok-left.left c.in_ok-text.text.items c.sn.ensures.range.slope.low c.sn.ensures.range.over.low c.requires.radius.low
    (c.deref-4.ensures.value ∙ c.in_ok-ordered.ensures ∙ ap (map (chain_at chains)) c.deref-2.ensures.value)
    (λ j. subst (λ chains. IsFloorReport c.args.scene.now c.args.job.now.bit c.args.job.now.limit c.args.milling.now.radius (chain_moves j chains) c.args.pitch c.in_ok-left.left)
    (c.deref-3.ensures.value ∙ sym c.deref-4.ensures.value) (c.in_ok-left.ensures j))
    c.in_ok-text.ensures.text c.in_ok-text.ensures.read_back)
