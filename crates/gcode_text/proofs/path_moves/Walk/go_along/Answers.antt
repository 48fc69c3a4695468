-- Answers the goals of `Walk::go_along`.
use Rattle.std.proofs.Common.{◌++◌, ◌-◌, ap, arith, length, pos, ◌∙◌}
use Rattle.std.proofs.lemmas.Result.{IfOk-equal}
use Rattle.plane_exact.specs.Nodes.{GridNode, place_over}
use Rattle.gcode_text.specs.Path.{chain_places}
use Rattle.gcode_text.proofs.Walks.{first_is, goes_along, last_is}
use Rattle.gcode_text.proofs.path_moves.Walk.go_along.Goals as goal

pub returns : goal.returns
returns c =
    let job = c.args.job.now in
    let nodes = c.nodes-nodes.result.now in
    let same = c.nodes-nodes.ensures.nodes in
    let counted = ap length same in
    let some = c.nodes-nodes.ensures.range.some in
    let first = ap (λ (n : GridNode). n.at) (c.first.view_is ∙ c.index-nodes-0.is) ∙ first_is nodes _ (omega arith) in
    let last = ap (λ (n : GridNode). n.at) (c.last.view_is ∙ c.index-nodes-nodes.is) ∙ last_is nodes (length nodes - 1) _ (omega arith) in
    IfOk-equal c.go_to-2.result _ _ _ c.go_to-2.ensures
    (goes_along job nodes c.args.self.now _ _ _ _ (omega arith) (c.spot_over.ensures ∙ ap (λ at. place_over at (pos job.safe)) first)
    (c.spot_over-2.ensures ∙ ap (λ at. place_over at (pos job.safe)) last) c.in_ok-go_to.ensures c.in_ok-go_through.ensures
    ∙ ap (λ nodes. c.args.self.now ++ chain_places job nodes) same)
