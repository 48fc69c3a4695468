-- Answers the goals of `Left::search`.
use Rattle.std.proofs.Common.{◌≡◌, ◌-◌, length, arith, refl, subst}
use Rattle.path_order.specs.Found.{IsNearestOf}
use Rattle.path_order.proofs.Searches.{both_searched, node_passed, slot_searched}
use Rattle.path_order.proofs.left.Left.+search.Goals as goal

pub returns-then-is_beyond : goal.returns-then-is_beyond
returns-then-is_beyond t c =
    let left = c.args.self.now in
    node_passed c.args.place left.slots.items left.extents.items c.args.node c.index.result.now c.args.best c.requires.indexed c.requires.some
    (omega (arith, left.extents.ok.0)) c.index.ensures (c.if-is_beyond.ensures refl) c.requires.best

pub returns-then-node-leaves : goal.returns-then-node-leaves
returns-then-node-leaves t c =
    let left = c.args.self.now in
    let slots = left.slots.items in
    let count : c.len-leaves.result ≡ length slots = omega (arith, left.slots.ok.0) in
    let low = c.if-node-leaves.true in
    slot_searched c.args.place slots c.args.node c.args.best c.nearer.result (omega arith)
    (subst (λ n. IsNearestOf c.args.place slots (λ j. j ≡ c.args.node - n) c.args.best c.nearer.result) count c.nearer.ensures)

pub returns : goal.returns
returns t c =
    let left = c.args.self.now in
    let slots = left.slots.items in
    let count : c.len-leaves.result ≡ length slots = omega (arith, left.slots.ok.0) in
    let low = c.if-node-leaves.false in
    both_searched c.args.place slots c.args.node c.children-near.result.0 c.children-near.result.1 c.args.best c.search-found.result c.search.result c.requires.some (omega arith)
    c.children-near.ensures c.search-found.ensures c.search.ensures
