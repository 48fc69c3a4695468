-- Answers the goals of `take_out`.
use Rattle.std.proofs.Common.{◌≡◌, None, Some, get_or, sym, ◌∙◌}
use Rattle.std.proofs.lemmas.List.{get_or_read}
use Rattle.loop_join.proofs.Indexed.{filled_within, indexed_taken}
use Rattle.loop_join.proofs.unused.take_out.Goals as goal

pub returns-clause-indexed : goal.returns-clause-indexed
returns-clause-indexed c =
    let slots = c.args.slots.now.items in
    let within = filled_within slots c.args.number c.requires.filled in
    let filled : get_or slots c.args.number None ≡ Some c.in-Some.seg =
    sym (get_or_read slots c.args.number c.index.result.now within c.index.ensures None) ∙ c.in-Some.is in
    indexed_taken slots c.in-Some.seg c.args.number c.args.ends.now c.remove.new.self c.remove-2.new.self c.requires.indexed filled
    (rw c.end_at.ensures at c.remove.ensures.updates)
    (rw c.end_at-2.ensures at c.remove-2.ensures.updates)
