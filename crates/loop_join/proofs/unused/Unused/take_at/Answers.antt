-- Answers the goals of `take_at`.
use Rattle.std.proofs.Common.{◌≡◌, ℕ, None, ap, false, get_or, sym, ◌∙◌}
use Rattle.std.specs.List.{find}
use Rattle.loop_join.specs.Ends.{has_end, without_first}
use Rattle.loop_join.specs.Index.{is_end_in, unused_in}
use Rattle.loop_join.proofs.Slots.{IsFirstAt, find_first, find_none, without_first_at, without_none}
use Rattle.loop_join.proofs.unused.Unused.take_at.Goals as goal
use Rattle.loop_join.proofs.unused.Unused.take_at.Goals.{After-from_residual, After-take_out}

none_at : (c : After-from_residual) (k : ℕ) → is_end_in c.args.p (get_or c.self.inside.slots.items k None) ≡ false
none_at c k = sym (c.self.invariant.indexed c.args.p k) ∙ c.in_err-number.ensures k

first_at : (c : After-take_out) → IsFirstAt c.args.p c.self.inside.slots.items c.in_ok-number.number c.take_out.result
first_at c =
    let p = c.args.p in
    let indexed = c.self.invariant.indexed in
    record {
      here = c.take_out.ensures.value;
      ends = sym (ap (is_end_in p) c.take_out.ensures.value) ∙ sym (indexed p c.in_ok-number.number) ∙ c.in_ok-number.ensures.0;
      none_before = λ k less. sym (indexed p k) ∙ c.in_ok-number.ensures.1 k less;
    }

pub returns-in_err-number-clause-found : goal.returns-in_err-number-clause-found
returns-in_err-number-clause-found c =
    c.from_residual.ensures ∙ sym (find_none c.args.p c.self.inside.slots.items (none_at c)) ∙ ap (find (has_end c.args.p)) c.self.view_is

pub returns-in_err-number-clause-left : goal.returns-in_err-number-clause-left
returns-in_err-number-clause-left c =
    sym c.self.view_is ∙ sym (without_none c.args.p c.self.inside.slots.items (none_at c)) ∙ ap (without_first c.args.p) c.self.view_is

pub returns-clause-found : goal.returns-clause-found
returns-clause-found c =
    sym (find_first c.args.p c.self.inside.slots.items c.in_ok-number.number c.take_out.result (first_at c)) ∙ ap (find (has_end c.args.p)) c.self.view_is

pub returns-clause-left : goal.returns-clause-left
returns-clause-left c =
    ap unused_in c.take_out.ensures.slots ∙ sym (without_first_at c.args.p c.self.inside.slots.items c.in_ok-number.number c.take_out.result (first_at c)) ∙ ap (without_first c.args.p) c.self.view_is
