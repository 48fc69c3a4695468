-- Answers the goals of `draw_from`.
use Rattle.std.proofs.Common.{sym, ◌∙◌}
use Rattle.std.proofs.lemmas.List.{nil_from_length}
use Rattle.dxf_outline.proofs.Through.{through_Err, through_Ok, through_more, through_off}
use Rattle.dxf_outline.proofs.polyline.draw_from.Goals as goal

pub returns-in_default-2-clause-fault : goal.returns-in_default-2-clause-fault
returns-in_default-2-clause-fault c kind =
    let off = rw c.in_default-2.is at c.in_ok-segs.ensures in
    rw c.at.ensures (through_off c.loop-corner.invariant c.args.at c.in-Some.corner.now c.in-Some.later.now c.in-Some.ensures.cases.0 off)

pub loop-corner-preserved : goal.loop-corner-preserved
loop-corner-preserved c =
    let span = rw c.in-Some-2.is at c.in_ok-segs.ensures in
    let fills = rw c.deref.ensures.value at c.in_ok-is_full.ensures.full in
    let takes = rw c.deref.ensures.value at c.in_ok-is_full.ensures.taken in
    through_more c.loop-corner.invariant c.in-Some.corner.now c.in-Some.later.now c.in-Some-2.segs.items _ _ c.in-Some.ensures.cases.0 span fills takes

pub returns-then-is_over-clause-fault : goal.returns-then-is_over-clause-fault
returns-then-is_over-clause-fault c kind =
    rw c.at-then-is_over.ensures (through_Err c.loop-corner.invariant c.args.at (nil_from_length c.loop-corner.rest.now c.in_default.ensures.cases) (sym c.is_over.ensures ∙ c.if-is_over.true))

pub returns-clause-drawn : goal.returns-clause-drawn
returns-clause-drawn c = through_Ok c.loop-corner.invariant c.args.at (nil_from_length c.loop-corner.rest.now c.in_default.ensures.cases) (sym c.is_over.ensures ∙ c.if-is_over.false)
