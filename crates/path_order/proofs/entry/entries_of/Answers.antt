-- Answers the goals of `entries_of`.
use Rattle.std.proofs.Common.{◌∙◌, [], ap}
use Rattle.std.proofs.lemmas.List.{get_or_read}
use Rattle.plane_exact.specs.Nodes.{first_place}
use Rattle.path_order.proofs.Listed.{one_entry_more}
use Rattle.path_order.proofs.entry.entries_of.Goals as goal

pub loop-number-preserved : goal.loop-number-preserved
loop-number-preserved c =
    let chains = c.args.chains.now in
    let i = c.loop-number.number in
    let read = get_or_read chains i _ c.loop-number-test.true c.index-chains-number.is [] in
    one_entry_more chains i c.first_of.result c.loop-number.entries.items _ c.loop-number.invariant (c.first_of.ensures ∙ ap first_place read) c.in_ok-push.ensures.items
