-- Answers the goals of `first_filled`.
use Rattle.std.proofs.Common.{◌≡◌, None, Option, get_or, inl, inr, sym, ap, ◌∙◌, arith, below_more}
use Rattle.std.specs.Option.{is_some}
use Rattle.std.proofs.lemmas.Bool.{cases_lt}
use Rattle.std.proofs.lemmas.List.{get_or_past, get_or_read}
use Rattle.plane_exact.specs.declared.point.Seg.{Seg}
use Rattle.loop_join.proofs.Slots.{is_none}
use Rattle.loop_join.proofs.unused.first_filled.Goals as goal

pub returns-then-is_some : goal.returns-then-is_some
returns-then-is_some c =
    let slots = c.args.slots.now in
    let slot = get_or_read slots c.loop-number.number c.index-slots-number.result c.loop-number-test.true c.index-slots-number.is None in
    (sym (sym c.if-is_some.true ∙ c.is_some.ensures ∙ ap (λ (o : Option Seg). is_some o) slot), c.loop-number.invariant)

pub loop-number-preserved : goal.loop-number-preserved
loop-number-preserved c =
    let slots = c.args.slots.now in
    let slot = get_or_read slots c.loop-number.number c.index-slots-number.result c.loop-number-test.true c.index-slots-number.is None in
    let empty : c.index-slots-number.result ≡ None = is_none c.index-slots-number.result (sym c.is_some.ensures ∙ c.if-is_some.false) in
    below_more (λ j. get_or slots j None ≡ None) c.loop-number.number c.loop-number.invariant (sym slot ∙ empty)

pub returns : goal.returns
returns c j = elim (cases_lt j c.loop-number.number) [
  | inl inside ↦ c.loop-number.invariant j inside
  | inr past ↦ get_or_past c.args.slots.now j None (omega arith)
]
