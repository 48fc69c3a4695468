-- Answers the goals of `Pairs::take_slots`.
use Rattle.std.proofs.Common.{◌≡◌, ap, sym, ◌∙◌}
use Rattle.grid_num.specs.Units.{per_unit_of}
use Rattle.dxf_outline.specs.Pairs.{fields_of, pairs_from}
use Rattle.dxf_outline.specs.State.{headed_by, pair_of, pairs_left}
use Rattle.dxf_outline.specs.declared.ahead.Pairs.{Pairs}
use Rattle.dxf_outline.specs.declared.pairs.Head.{Head}
use Rattle.dxf_outline.proofs.Taking.{fields_of-Broken, fields_of-Over, fields_of-head, taking_all, taking_broken, taking_more, taking_none}
use Rattle.dxf_outline.proofs.ahead.Pairs.take_slots.Goals as goal

-- the pairs left, by what stands first
left_is : (left : Pairs) (head : Head) → left.head ≡ head → pairs_left left ≡ headed_by head (pairs_from left.at left.texts)
left_is left head is = ap (λ head. headed_by head (pairs_from left.at left.texts)) is

pub fields-init : goal.fields-init
fields-init c = taking_none c.args.shape (per_unit_of c.args.units) _ _ (c.empty-slots.ensures c.args.shape (per_unit_of c.args.units))

pub returns-in-Over-clause-slots : goal.returns-in-Over-clause-slots
returns-in-Over-clause-slots c = taking_all c.fields.invariant (ap fields_of (left_is c.fields.self _ c.in-Over.is) ∙ fields_of-Over)

pub returns-in-BadCode-clause-fault : goal.returns-in-BadCode-clause-fault
returns-in-BadCode-clause-fault c =
    taking_broken c.fields.invariant c.at.result (ap fields_of (left_is c.fields.self _ c.in-BadCode.is) ∙ rw c.at.ensures (fields_of-Broken _))

pub returns-in-Unended-clause-fault : goal.returns-in-Unended-clause-fault
returns-in-Unended-clause-fault c =
    taking_broken c.fields.invariant c.at-in-Unended.result (ap fields_of (left_is c.fields.self _ c.in-Unended.is) ∙ rw c.at-in-Unended.ensures (fields_of-Broken _))

pub returns-then-has_code-clause-slots : goal.returns-then-has_code-clause-slots
returns-then-has_code-clause-slots c =
    taking_all c.fields.invariant (ap fields_of (left_is c.fields.self _ c.in-Next.is) ∙ fields_of-head _ _ (sym c.has_code.ensures ∙ c.if-has_code.true))

pub fields-preserved : goal.fields-preserved
fields-preserved c =
    let is = c.next-taken.ensures.pairs ∙ ap (λ head. headed_by head (pairs_left c.next-taken.new.self)) (c.next-taken.ensures.which ∙ c.in-Next.is) in
    taking_more c.fields.invariant (pair_of c.in-Next.entry) (pairs_left c.next-taken.new.self) c.put.new.self is (sym c.has_code.ensures ∙ c.if-has_code.false) c.put.ensures
