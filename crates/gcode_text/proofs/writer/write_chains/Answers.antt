-- Answers the goals of `write_chains`.
use Rattle.std.proofs.Common.{◌++◌, [], All, ap, flat_map, rules, subst, ◌∙◌}
use Rattle.std.proofs.lemmas.List.{get_or_read, take_all}
use Rattle.std.proofs.lemmas.List.Elements.{All-more}
use Rattle.plane_exact.specs.Nodes.{IsChain}
use Rattle.gcode_text.specs.Path.{chain_lines}
use Rattle.gcode_text.specs.Written.{code_text}
use Rattle.gcode_text.proofs.Growing.{grown}
use Rattle.gcode_text.proofs.writer.write_chains.Goals as goal

pub loop-chain-init : goal.loop-chain-init
loop-chain-init c = (search rules, search rules)

pub loop-chain-preserved : goal.loop-chain-preserved
loop-chain-preserved c =
    let chains = c.args.chains.now in
    let i = c.loop-chain.chain-index in
    let read = get_or_read chains i _ c.loop-chain-test.true c.chain-item.is [] in (
      grown (chain_lines c.args.job.now) chains i [] c.args.code.now.items c.loop-chain.code.items
          c.write_chain.new.code.items c.loop-chain-test.true c.loop-chain.invariant.0
          (c.in_ok-write_chain.ensures.text ∙ ap (λ chain. c.loop-chain.code.items ++ code_text (chain_lines c.args.job.now chain)) read),
      All-more IsChain chains i [] c.loop-chain-test.true c.loop-chain.invariant.1 (subst IsChain read c.write_chain.ensures.range),
    )

pub returns-clause-text : goal.returns-clause-text
returns-clause-text c =
    c.loop-chain.invariant.0 ∙ ap (λ chains. c.args.code.now.items ++ code_text (flat_map (chain_lines c.args.job.now) chains))
    (take_all c.loop-chain.chain-index c.args.chains.now c.loop-chain-test.false)

pub returns-clause-range : goal.returns-clause-range
returns-clause-range c = subst (All IsChain) (take_all c.loop-chain.chain-index c.args.chains.now c.loop-chain-test.false) c.loop-chain.invariant.1
