-- Answers the goals of `Left::take_out`.
use Rattle.std.proofs.Common.{◌≡◌, ◌<◌, ◌+◌, None, length, set, arith, refl, subst, sym}
use Rattle.std.proofs.lemmas.List.{length-set}
use Rattle.path_order.specs.Index.{IsIndex}
use Rattle.path_order.proofs.Indexes.{drawn_in, emptied}
use Rattle.path_order.proofs.left.Left.take_out.Goals as goal

pub loop-node-init : goal.loop-node-init
loop-node-init c =
    let slots = c.args.self.now.slots.items in
    let extents = c.args.self.now.extents.items in
    let slot = c.args.slot in
    let there : slot < length slots = c.requires.slot in
    let kept : length (set slots slot None) ≡ length slots = length-set slots slot None in
    let count : c.len.result ≡ length slots = omega (arith, c.args.self.now.slots.ok.0) in
    record {
      indexed = subst (λ n. IsIndex (set slots slot None) (set extents (n + slot) c.empty.result)) (sym count) (emptied slots extents slot c.empty.result c.requires.indexed there c.empty.ensures);
      slots = refl;
      some = omega arith;
      node = omega arith;
    }

pub loop-node-preserved : goal.loop-node-preserved
loop-node-preserved c =
    let old = c.loop-node.invariant in
    let far = c.loop-node-test.true in
    let slots = c.loop-node.self.slots.items in
    let extents = c.loop-node.self.extents.items in
    record {
      indexed = drawn_in slots extents _ c.index.result.now c.index-in-loop-node.result.now c.join.result old.indexed (omega arith) (omega arith)
          c.index.ensures c.index-in-loop-node.ensures c.join.ensures.first c.join.ensures.second c.join.ensures.least;
      slots = old.slots;
      some = omega arith;
      node = omega arith;
    }
