-- Answers the goals of `split_at_mark`.
use Rattle.std.proofs.Common.{◌≡◌, take, sym, ap, ◌∙◌, rules, tests, arith}
use Rattle.std.specs.List.{position_or_len}
use Rattle.std.proofs.lemmas.Grind.{common_steps}
use Rattle.std.proofs.lemmas.Iterator.{YieldsList-from_slice}
use Rattle.std.proofs.lemmas.Iterator.Search.{position_from_yields_List}
use Rattle.std.proofs.lemmas.Option.{cond_some}
use Rattle.grid_num.specs.Real.{is_exponent_mark}
use Rattle.grid_num.proofs.Sides.{list_any_none}
use Rattle.grid_num.proofs.real.split_at_mark.Goals as goal

pub returns-in_err-place-clause-none : goal.returns-in_err-place-clause-none
returns-in_err-place-clause-none c =
    let text = c.args.text.now in
    let found = position_from_yields_List is_exponent_mark _ _ _ c.position.ensures.ran (YieldsList-from_slice text cc) (λ x b q k. search (rules, tests)) in
    rw c.from_residual.ensures (list_any_none is_exponent_mark text (sym c.in_err-place.was ∙ found))

pub returns-clause-before : goal.returns-clause-before
returns-clause-before c =
    let text = c.args.text.now in
    let found = position_from_yields_List is_exponent_mark _ _ _ c.position.ensures.ran (YieldsList-from_slice text cc) (λ x b q k. search (rules, tests)) in
    let place : position_or_len is_exponent_mark text ≡ c.in_ok-place.place = (cond_some _ _ _ (sym found ∙ c.in_ok-place.was)).1 in
    ap (λ n. take n text) (sym place)

pub returns-clause-behind : goal.returns-clause-behind
returns-clause-behind c =
    let text = c.args.text.now in
    let found = position_from_yields_List is_exponent_mark _ _ _ c.position.ensures.ran (YieldsList-from_slice text cc) (λ x b q k. search (rules, tests)) in
    let place : position_or_len is_exponent_mark text ≡ c.in_ok-place.place = (cond_some _ _ _ (sym found ∙ c.in_ok-place.was)).1 in
    rw place (grind (arith, common_steps))
