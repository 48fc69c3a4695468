-- Answers the goals of `last_of`.
use Rattle.std.proofs.Common.{◌∙◌, ◌-◌, ap, arith, length}
use Rattle.plane_exact.specs.Nodes.{GridNode, last_place}
use Rattle.path_order.proofs.Places.{last_is}
use Rattle.path_order.proofs.ends.last_of.Goals as goal

pub returns : goal.returns
returns c =
    let nodes = c.nodes-nodes.result.now in
    let same = c.nodes-nodes.ensures.nodes in
    let some = c.nodes-nodes.ensures.range.some in
    let counted = ap length same in
    ap (λ (n : GridNode). n.at) (c.last.view_is ∙ c.index-nodes-nodes.is) ∙ last_is nodes (length nodes - 1) _ (omega arith) ∙ ap last_place same
