-- Answers the goals of `take_outside`.
use Rattle.std.proofs.Common.{sym, ◌∙◌, arith}
use Rattle.std.proofs.lemmas.List.{length_push}
use Rattle.gcode_text.proofs.Outside.{then_outside_none, skips_in_comment, opens_comment, skips_blank, takes_byte}
use Rattle.gcode_text.proofs.line.take_outside.Goals as goal
use Rattle.gcode_text.proofs.line.take_outside.Goals.{then-in_comment, else-in_comment+then-byte-eq40, else-in_comment+else-byte-eq40+else-byte-eq59+then-not-separates, else-in_comment+else-byte-eq40+else-byte-eq59+else-not-separates}

pub loop-byte-init : goal.loop-byte-init
loop-byte-init c = record { outside = rw c.clear.ensures (sym (then_outside_none _)); short = rw c.clear.ensures (omega arith) }

pub loop-byte-preserved : goal.loop-byte-preserved
loop-byte-preserved c =
    let before = c.loop-byte in
    let line = c.args.line.now in
    let i = c.loop-byte.byte-index in
    let inside = c.loop-byte-test.true in
    elim c.if-in_comment.branch [
      | then-in_comment w ↦
          let step = skips_in_comment before.in_comment c.if-in_comment.in_comment before.outside.items line i inside w.if-in_comment.true w.in_comment-is in
          record { outside = rw w.outside-is (before.invariant.outside ∙ step); short = rw w.outside-is (omega (arith, before.invariant.short)) }
      | else-in_comment+then-byte-eq40 w ↦
          let step = opens_comment before.in_comment c.if-in_comment.in_comment before.outside.items line i inside w.if-in_comment.false w.in_comment-is w.if-byte-eq40.true in
          record { outside = rw w.outside-is (before.invariant.outside ∙ step); short = rw w.outside-is (omega (arith, before.invariant.short)) }
      | else-in_comment+else-byte-eq40+else-byte-eq59+then-not-separates w ↦
          let step = takes_byte before.in_comment c.if-in_comment.in_comment before.outside.items line i inside w.if-in_comment.false w.in_comment-is w.if-byte-eq40.false w.if-byte-eq59.false (sym w.separates.ensures ∙ w.if-not-separates.true) in
          record { outside = rw (w.outside-is, w.push.ensures.items, w.as_capital.ensures) (before.invariant.outside ∙ step); short = rw (w.outside-is, w.push.ensures.items) (omega (arith, before.invariant.short, length_push before.outside.items w.as_capital.result)) }
      | else-in_comment+else-byte-eq40+else-byte-eq59+else-not-separates w ↦
          let step = skips_blank before.in_comment c.if-in_comment.in_comment before.outside.items line i inside w.if-in_comment.false w.in_comment-is w.if-byte-eq40.false w.if-byte-eq59.false (sym w.separates.ensures ∙ w.if-not-separates.false) in
          record { outside = rw w.outside-is (before.invariant.outside ∙ step); short = rw w.outside-is (omega (arith, before.invariant.short)) }
    ]

pub push-requires : goal.push-requires
push-requires c = omega (arith, c.loop-byte.invariant.short, c.requires)
