-- Answers the goals of `chain_moves`.
use Rattle.std.proofs.Common.{[], ap, arith, flat_map, length, ◌∙◌}
use Rattle.std.proofs.lemmas.List.{get_or_read, take_all}
use Rattle.gcode_text.specs.Path.{chain_moves, chain_places, moves_along}
use Rattle.gcode_text.proofs.Walks.{places_before}
use Rattle.gcode_text.proofs.path_moves.chain_moves.Goals as goal

pub go_along-requires-clause-room : goal.go_along-requires-clause-room
go_along-requires-clause-room c =
    let chains = c.args.chains.now in
    let i = c.loop-chain.chain-index in
    let read = get_or_read chains i _ c.loop-chain-test.true c.chain-item.is [] in
    let few = c.requires.few.chains_le in
    let short = c.requires.few.nodes_le in
    omega (arith, ap length c.loop-chain.invariant, ap length read, places_before c.args.job.now chains i [] c.loop-chain-test.true)

pub returns : goal.returns
unfolding chain_moves
returns c =
    c.into_moves.ensures ∙ ap moves_along c.loop-chain.invariant ∙ ap (λ chains. moves_along (flat_map (chain_places c.args.job.now) chains)) (take_all c.loop-chain.chain-index c.args.chains.now c.loop-chain-test.false)
