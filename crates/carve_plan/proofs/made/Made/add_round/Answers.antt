-- Answers the goals of `Made::add_round`.
use Rattle.std.proofs.Common.{rules, ◌≡◌, ◌+◌, ◌<◌, ◌≤◌, ℕ, ◌∷◌, ◌++◌, [], List, drop, get_or, length, arith, ap, refl, subst, sym, ◌∙◌}
use Rattle.std.proofs.lemmas.List.{drop_all, drop_more}
use Rattle.plane_exact.specs.Nodes.{GridNode}
use Rattle.engrave_model.specs.Drawing.{edges_of}
use Rattle.carve_plan.specs.Made.{nodes_of}
use Rattle.carve_plan.proofs.Faults.{cut_fault, cut_fault_weaker}
use Rattle.carve_plan.specs.declared.stop.Stop.{Stop}
use Rattle.carve_plan.proofs.Going.{IsPartly, begun, came_round, counted_round, gone_on, no_room, too_many_around}
use Rattle.carve_plan.proofs.made.Made.add_round.Goals as goal

pub returns-in_err-count-clause-fault : goal.returns-in_err-count-clause-fault
returns-in_err-count-clause-fault c =
    let told = c.in_err-count.ensures.fault in
    let many = no_room (edges_of c.args.scene.now) c.args.bit.now c.args.limit c.args.first (nodes_of c.args.others.now) c.args.self.now.chains.items c.args.self.now.nodes _
    c.requires.counted.count told.1
    in
    let fault = cut_fault _ c.in_err-count.field-0.0 told.0 many in
    search rules

pub loop-stop-init : goal.loop-stop-init
loop-stop-init c =
    let count = c.requires.counted.count in
    let more = c.in_ok-count.ensures.counted in
    record {
      partly = begun (edges_of c.args.scene.now) c.args.bit.now c.args.limit c.args.first (nodes_of c.args.others.now ++ c.args.first ∷ []) c.args.self.now.chains.items
          c.count.new.self c.in_ok-chain.chain (ap (λ v. v.items) c.count.ensures.unchanged) c.in_ok-chain.ensures (omega arith);
      few = c.in_ok-count.ensures.few;
    }

-- the targets that are left begin with the next stop's node
left_is : (others : List Stop) (first : GridNode) (k : ℕ) (stop : Stop) → k < length others → stop ≡ get_or others k stop
    → nodes_of (drop k others) ++ first ∷ [] ≡ stop.node ∷ (nodes_of (drop (k + 1) others) ++ first ∷ [])
left_is others first k stop below is =
    ap (λ stops. nodes_of stops ++ first ∷ []) (drop_more others k stop below ∙ ap (λ (s : Stop). s ∷ drop (k + 1) others) (sym is))

-- only the first node is left
last_is : (others : List Stop) (first : GridNode) (k : ℕ) → length others ≤ k → nodes_of (drop k others) ++ first ∷ [] ≡ first ∷ []
last_is others first k past = ap (λ stops. nodes_of stops ++ first ∷ []) (drop_all k others past)

pub returns-in_err-go-clause-fault : goal.returns-in_err-go-clause-fault
returns-in_err-go-clause-fault c =
    let edges = edges_of c.args.scene.now in
    let others = c.args.others.now in
    let first = c.args.first in
    let targets = nodes_of others ++ first ∷ [] in
    let left = nodes_of (drop (c.loop-stop.stop-index + 1) others) ++ first ∷ [] in
    let partly = subst (λ left. IsPartly edges c.args.bit.now c.args.limit first targets left c.loop-stop.at c.args.self.now.chains.items c.loop-stop.self c.loop-stop.chain)
    (left_is others first c.loop-stop.stop-index c.stop-item.result c.loop-stop-test.true c.stop-item.is) c.loop-stop.invariant.partly
    in
    let fault = cut_fault_weaker _ _ c.in_err-go.field-0.0
    (too_many_around edges c.args.bit.now c.args.limit first targets (nodes_of others) left c.loop-stop.at c.stop-item.result.node c.args.self.now.chains.items c.loop-stop.self
    c.loop-stop.chain 4194304 refl partly) c.in_err-go.ensures.fault
    in
    search rules

pub loop-stop-preserved : goal.loop-stop-preserved
loop-stop-preserved c =
    let edges = edges_of c.args.scene.now in
    let others = c.args.others.now in
    let first = c.args.first in
    let targets = nodes_of others ++ first ∷ [] in
    let left = nodes_of (drop (c.loop-stop.stop-index + 1) others) ++ first ∷ [] in
    let partly = subst (λ left. IsPartly edges c.args.bit.now c.args.limit first targets left c.loop-stop.at c.args.self.now.chains.items c.loop-stop.self c.loop-stop.chain)
    (left_is others first c.loop-stop.stop-index c.stop-item.result c.loop-stop-test.true c.stop-item.is) c.loop-stop.invariant.partly
    in
    record {
      partly = gone_on edges c.args.bit.now c.args.limit first targets left c.loop-stop.at c.stop-item.result.node c.args.self.now.chains.items c.loop-stop.self c.go.new.self
          c.loop-stop.chain c.go.new.chain partly c.in_ok-go.ensures.made;
      few = c.in_ok-go.ensures.few;
    }

pub returns-in_err-go-2-clause-fault : goal.returns-in_err-go-2-clause-fault
returns-in_err-go-2-clause-fault c =
    let edges = edges_of c.args.scene.now in
    let others = c.args.others.now in
    let first = c.args.first in
    let targets = nodes_of others ++ first ∷ [] in
    let partly = subst (λ left. IsPartly edges c.args.bit.now c.args.limit first targets left c.loop-stop.at c.args.self.now.chains.items c.loop-stop.self c.loop-stop.chain)
    (last_is others first c.loop-stop.stop-index c.loop-stop-test.false) c.loop-stop.invariant.partly
    in
    let fault = cut_fault_weaker _ _ c.in_err-go-2.field-0.0
    (too_many_around edges c.args.bit.now c.args.limit first targets (nodes_of others) [] c.loop-stop.at first c.args.self.now.chains.items c.loop-stop.self c.loop-stop.chain
    4194304 refl partly) c.in_err-go-2.ensures.fault
    in
    search rules

-- the whole way round
around : (c : goal.In_ok-push) → IsPartly (edges_of c.args.scene.now) c.args.bit.now c.args.limit c.args.first (nodes_of c.args.others.now ++ c.args.first ∷ []) [] c.args.first
    c.args.self.now.chains.items c.go-2.new.self c.go-2.new.chain
around c =
    let edges = edges_of c.args.scene.now in
    let others = c.args.others.now in
    let first = c.args.first in
    let targets = nodes_of others ++ first ∷ [] in
    let partly = subst (λ left. IsPartly edges c.args.bit.now c.args.limit first targets left c.loop-stop.at c.args.self.now.chains.items c.loop-stop.self c.loop-stop.chain)
    (last_is others first c.loop-stop.stop-index c.loop-stop-test.false) c.loop-stop.invariant.partly
    in
    gone_on edges c.args.bit.now c.args.limit first targets [] c.loop-stop.at first c.args.self.now.chains.items c.loop-stop.self c.go-2.new.self c.loop-stop.chain c.go-2.new.chain
    partly c.in_ok-go-2.ensures.made

pub returns-clause-made : goal.returns-clause-made
returns-clause-made c =
    came_round (edges_of c.args.scene.now) c.args.bit.now c.args.limit c.args.first (nodes_of c.args.others.now ++ c.args.first ∷ []) (nodes_of c.args.others.now) c.args.first
    c.args.self.now.chains.items c.push.new.self.items c.go-2.new.self c.go-2.new.chain refl (around c) c.in_ok-push.ensures.items

pub returns-clause-counted : goal.returns-clause-counted
returns-clause-counted c = record {
  count = counted_round (edges_of c.args.scene.now) c.args.bit.now c.args.limit c.args.first (nodes_of c.args.others.now ++ c.args.first ∷ []) c.args.first
      c.args.self.now.chains.items c.push.new.self.items c.go-2.new.self c.go-2.new.chain (around c) c.in_ok-push.ensures.items;
  few = c.in_ok-go-2.ensures.few;
}
