-- Answers the goals of `chains_of`.
use Rattle.std.proofs.Common.{rules, ◌≡◌, ◌≤◌, ℕ, List, ◌∷◌, ◌++◌, All, take, drop, subst, sym}
use Rattle.std.proofs.lemmas.List.{nil_from_length}
use Rattle.carve_plan.specs.Made.{nodes_of}
use Rattle.carve_plan.specs.Stops.{IsOfAnother, IsRound}
use Rattle.carve_plan.specs.declared.stop.Stop.{Stop}
use Rattle.carve_plan.proofs.Faults.{cut_fault_weaker}
use Rattle.carve_plan.proofs.Rounding.{all_made, round_is, round_made, too_many_made}
use Rattle.carve_plan.proofs.round.chains_of.Goals as goal

-- the next round is one of the stops that are left
next_round : (left others round later : List Stop) (first : Stop) (count : ℕ) → left ≡ first ∷ others → others ≡ round ++ later → round ≡ take count others → later ≡ drop count others
    → All (λ stop. stop.loop_no ≡ first.loop_no) (take count others) → IsOfAnother first.loop_no (drop count others) → IsRound (first.node ∷ nodes_of round) left later
next_round left others round later first count is apart front back same whole =
    round_is first left others round later is apart (subst (All (λ (stop : Stop). stop.loop_no ≡ first.loop_no)) (sym front) same)
    (subst (IsOfAnother first.loop_no) (sym back) whole)

pub returns-in_err-add_round : goal.returns-in_err-add_round
returns-in_err-add_round c =
    let first = c.in-Some.first.now in
    let round = c.split_at.result.0.now in
    let later = c.split_at.result.1.now in
    let split = c.split_at.ensures in
    let count = c.count_of_loop.ensures in
    let is = next_round c.loop-first.left.now c.in-Some.others.now round later first c.count_of_loop.result c.in-Some.ensures.cases.0 split.by_index.0 split.front split.back count.same count.whole in
    let fault = cut_fault_weaker _ _ c.in_err-add_round.field-0.0
    (too_many_made c.args.scene.now c.args.bit.now c.args.limit c.args.stops.now c.loop-first.left.now later (nodes_of round) first.node c.loop-first.made.chains.items
    c.loop-first.invariant.made is) c.in_err-add_round.ensures.fault
    in
    search rules

pub loop-first-preserved : goal.loop-first-preserved
loop-first-preserved c =
    let first = c.in-Some.first.now in
    let round = c.split_at.result.0.now in
    let later = c.split_at.result.1.now in
    let split = c.split_at.ensures in
    let count = c.count_of_loop.ensures in
    let is = next_round c.loop-first.left.now c.in-Some.others.now round later first c.count_of_loop.result c.in-Some.ensures.cases.0 split.by_index.0 split.front split.back count.same count.whole in
    record {
      made = round_made c.args.scene.now c.args.bit.now c.args.limit c.args.stops.now c.loop-first.left.now later (nodes_of round) first.node c.loop-first.made.chains.items
          c.add_round.new.self.chains.items c.loop-first.invariant.made is c.in_ok-add_round.ensures.made;
      counted = c.in_ok-add_round.ensures.counted;
    }

pub returns : goal.returns
returns c =
    let counted = c.loop-first.invariant.counted in
    all_made c.args.scene.now c.args.bit.now c.args.limit c.args.stops.now c.loop-first.left.now c.loop-first.made.chains.items
    (nil_from_length c.loop-first.left.now c.in_default.ensures.cases) c.loop-first.invariant.made (subst (λ n. n ≤ 4194304) counted.count counted.few)
