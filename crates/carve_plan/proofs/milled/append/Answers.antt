-- Answers the goals of `append`.
use Rattle.std.proofs.Common.{◌∷◌, ◌++◌, [], ap, sym, ◌∙◌, append_assoc, append-nil}
use Rattle.carve_plan.proofs.milled.append.Goals as goal

pub loop-chain-init : goal.loop-chain-init
loop-chain-init c = sym (append-nil c.args.chains.now.items)

pub loop-chain-preserved : goal.loop-chain-preserved
loop-chain-preserved c =
    c.in_ok-push.ensures.items ∙ ap (λ chains. chains ++ c.in-Some.chain ∷ []) c.loop-chain.invariant
    ∙ append_assoc c.args.chains.now.items c.loop-chain.yielded (c.in-Some.chain ∷ [])
