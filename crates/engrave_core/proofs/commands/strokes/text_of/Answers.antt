-- Answers the goals of `text_of`.
use Rattle.std.specs.Prelude.{map}
use Rattle.std.proofs.Common.{◌≤◌, ap, inl, length, subst, sym, ◌∙◌}
use Rattle.path_order.specs.Order.{IsOrder, chain_at}
use Rattle.plane_exact.specs.declared.node.TheConstants.{MOST_CHAINS}
use Rattle.stroke_engrave.proofs.Along.{chains_few}
use Rattle.engrave_core.specs.Commands.Strokes.{IsEngravedOrRefused}
use Rattle.engrave_core.specs.Refusals.{cover_refusal}
use Rattle.engrave_core.proofs.Done.{refused_is_answered}
use Rattle.engrave_core.proofs.StrokePrograms.{engraved, uncounted}
use Rattle.engrave_core.proofs.commands.strokes.text_of.Goals as goal

pub order-requires : goal.order-requires
order-requires c =
    let within = chains_few c.args.depth c.args.strokes.now c.requires.few in
    subst (λ chains. length chains ≤ MOST_CHAINS) (sym (c.deref.ensures.value ∙ c.in_ok-chains.ensures.value)) within.chains_le

pub returns-in_err-cut-clause-value : goal.returns-in_err-cut-clause-value
returns-in_err-cut-clause-value c =
    refused_is_answered _ (IsEngravedOrRefused c.args.job.now c.args.depth c.args.pitch c.args.strokes.now) c.from_residual-in_err-cut.result (cover_refusal c.in_err-cut.field-0.0)
    c.from_residual-in_err-cut.ensures.0 c.from_residual-in_err-cut.ensures.1
    (uncounted c.args.job.now c.args.depth c.args.pitch c.args.strokes.now c.in_err-cut.field-0.0 c.in_err-cut.ensures)

pub returns-clause-value : goal.returns-clause-value
returns-clause-value c =
    let chains = c.in_ok-chains.chains.items in
    let made = c.in_ok-chains.ensures.value in
    let numbers = c.in_ok-numbers.numbers.items in
    let ordered = subst (λ chains. IsOrder chains numbers) (c.deref.ensures.value ∙ made) c.in_ok-numbers.ensures in
    inl (engraved c.args.job.now c.args.depth c.args.pitch c.args.strokes.now numbers ordered c.requires.few c.deref-3.result.now c.in_ok-cut.cut c.in_ok-cut.points
    c.in_ok-text.text.items c.requires.depth.low
    (c.deref-3.ensures.value ∙ c.in_ok-ordered.ensures ∙ ap (map (chain_at chains)) c.deref-2.ensures.value ∙ ap (λ chains. map (chain_at chains) numbers) made)
    c.in_ok-cut.ensures c.in_ok-text.ensures.text c.in_ok-text.ensures.read_back)
