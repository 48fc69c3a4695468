-- Answers the goals of `Left::of`.
use Rattle.std.proofs.Common.{◌∙◌, ap, subst, sym}
use Rattle.path_order.specs.Entries.{AreAllEntries}
use Rattle.path_order.specs.Left.{entries_in}
use Rattle.path_order.proofs.Listed.{all_entries, few_slots, resorted}
use Rattle.path_order.proofs.Slots.{entries_of_full}
use Rattle.path_order.proofs.left.Left.of.Goals as goal

pub extents_of-requires : goal.extents_of-requires
extents_of-requires c =
    few_slots c.args.chains.now _ _ _ _ _ c.requires c.in_ok-entries.ensures c.sort_by_cached_key.ensures.permutation c.deref.ensures.value c.in_ok-slots.ensures c.deref-2.ensures.value

pub returns-clause-all : goal.returns-clause-all
returns-clause-all c =
    subst (AreAllEntries c.args.chains.now) (sym (ap entries_in c.in_ok-slots.ensures ∙ entries_of_full c.deref.result.now ∙ c.deref.ensures.value))
    (resorted c.args.chains.now _ _ c.sort_by_cached_key.ensures.permutation (all_entries c.args.chains.now _ c.in_ok-entries.ensures))
