-- Answers the goals of `Left::nearer`.
use Rattle.std.proofs.Common.{◌≡◌, ◌∙◌, false, None, Some, arith, refl, rules, subst, sym}
use Rattle.std.proofs.lemmas.Int.{ints}
use Rattle.std.proofs.lemmas.List.{get_or_read}
use Rattle.std.proofs.lemmas.Option.{same_Some}
use Rattle.std.specs.Prelude.{IsTrue}
use Rattle.plane_exact.proofs.Ranges.{wide_is}
use Rattle.plane_exact.proofs.Stored.{wide}
use Rattle.path_order.specs.Order.{IsBefore}
use Rattle.path_order.specs.Found.{IsKnown, IsNearestOf}
use Rattle.path_order.specs.declared.found.Found.{Found}
use Rattle.path_order.proofs.Searches.{best_found, best_kept}
use Rattle.path_order.proofs.left.Left.nearer.Goals as goal

never : IsTrue false → ⊥
never t = search rules

pub returns-in-Some-best : goal.returns-in-Some-best
returns-in-Some-best c =
    let place = c.args.place in
    let slots = c.args.self.now.slots.items in
    let entry = c.in-Some.entry in
    let held = c.in-Some-best.held in
    let found : Found = record { slot = c.args.slot; way = wide c.dot.result; number = entry.number } in
    let full = sym (get_or_read slots c.args.slot c.index.result.now c.requires.slot c.index.ensures None) ∙ c.in-Some.is in
    let way = wide_is c.dot.result (omega (arith, ints)) ∙ c.dot.ensures.value in
    subst (λ best. IsNearestOf place slots (λ j. j ≡ c.args.slot) best (Some held)) (sym c.in-Some-best.is)
    (best_kept place slots c.args.slot entry found held full way refl (c.if-is_before.ensures.0 refl) (subst (IsKnown place slots) c.in-Some-best.is c.requires.best))

pub returns-in_default-best : goal.returns-in_default-best
returns-in_default-best c =
    let entry = c.in-Some.entry in
    let slots = c.args.self.now.slots.items in
    let found : Found = record { slot = c.args.slot; way = wide c.dot.result; number = entry.number } in
    let full = sym (get_or_read slots c.args.slot c.index.result.now c.requires.slot c.index.ensures None) ∙ c.in-Some.is in
    let way = wide_is c.dot.result (omega (arith, ints)) ∙ c.dot.ensures.value in
    best_found c.args.place slots c.args.slot entry found c.args.best c.requires.slot full refl way refl
    (λ held is before. never (c.if-is_before.ensures.1
    (subst (λ (f : Found). IsBefore f.way f.number found.way found.number) (sym (same_Some c.in-Some-best.held held (sym c.in-Some-best.is ∙ is))) before)))
