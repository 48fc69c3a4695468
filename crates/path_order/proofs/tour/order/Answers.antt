-- Answers the goals of `order`.
use Rattle.std.proofs.Common.{◌∙◌, [], ap, subst, sym}
use Rattle.std.proofs.lemmas.List.{get_or_read}
use Rattle.plane_exact.specs.Nodes.{last_place}
use Rattle.path_order.specs.Left.{entries_left}
use Rattle.path_order.proofs.Tours.{IsSoFar, chain_taken, one_fewer, taken_out}
use Rattle.path_order.proofs.tour.order.Goals as goal

pub bounds-chains-number : goal.bounds-chains-number
bounds-chains-number c = chain_taken c.args.chains.now c.loop-number.order.items _ _ c.loop-number.place c.in-Some.number c.loop-number.invariant.so_far c.in-Some.ensures.taken

pub loop-number-smaller : goal.loop-number-smaller
loop-number-smaller c = one_fewer _ _ c.loop-number.place c.in-Some.number c.in-Some.ensures.taken

pub loop-number-preserved : goal.loop-number-preserved
loop-number-preserved c =
    let chains = c.args.chains.now in
    let i = c.in-Some.number in
    let so_far = c.loop-number.invariant.so_far in
    let takes = c.in-Some.ensures.taken in
    let there = chain_taken chains c.loop-number.order.items _ _ c.loop-number.place i so_far takes in
    let read = get_or_read chains i _ there c.index-chains-number.is [] in
    let next = c.last_of-place.ensures ∙ ap last_place read in
    let left = entries_left c.take_nearest.new.self in
    record {
      indexed = c.in-Some.ensures.indexed;
      so_far = subst (λ xs. IsSoFar chains xs left c.last_of-place.result) (sym c.in_ok-push.ensures.items)
          (subst (IsSoFar chains _ left) (sym next) (taken_out chains c.loop-number.order.items _ left c.loop-number.place i so_far takes));
    }
