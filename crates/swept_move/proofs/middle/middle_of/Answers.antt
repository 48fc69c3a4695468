-- Answers the goals of `middle_of`.
use mir.Syntax.{w64}
use Rattle.std.proofs.Common.{ℤ, FitsSigned, subst, sym}
use Rattle.std.proofs.lemmas.Int.{to_z-of_z}
use Rattle.plane_exact.specs.Cone.{Cone}
use Rattle.plane_exact.specs.Plane.{GridPoint}
use Rattle.plane_exact.specs.declared.moves.Move.{Move}
use Rattle.swept_move.specs.Middle.{IsMiddle}
use Rattle.swept_move.proofs.Middles.{middle_crossing, middle_start, middle_turned, missed, ways_of}
use Rattle.swept_move.proofs.Widths.{held}
use Rattle.swept_move.proofs.middle.middle_of.Goals as goal

-- what a call answered, as the code has it
kept : {cone : Cone} {mv : Move} {p : GridPoint} (i : ℤ) → FitsSigned w64 i → IsMiddle cone mv p i → IsMiddle cone mv p (held w64 i)
kept {cone = cone} {mv = mv} {p = p} i fits middle = subst (IsMiddle cone mv p) (sym (to_z-of_z w64 i fits)) middle

pub returns-then-meets : goal.returns-then-meets
returns-then-meets c =
    let mv = c.args.mv.now in
    let ways = ways_of c.sight_of-from.ensures c.sight_of-to.ensures in
    kept c.column.result (record { sfits = c.column.type_inv })
    (middle_start c.args.bit.now mv.from mv.to c.args.point ways _ (c.meets.ensures.value.0 c.if-meets.true) c.column.ensures)

pub returns-then-meets-2 : goal.returns-then-meets-2
returns-then-meets-2 c =
    let mv = c.args.mv.now in
    let ways = ways_of c.sight_of-to.ensures c.sight_of-from.ensures in
    kept c.column-then-meets-2.result (record { sfits = c.column-then-meets-2.type_inv })
    (middle_turned c.args.bit.now mv.to mv.from c.args.point _
    (middle_start c.args.bit.now mv.to mv.from c.args.point ways _ (c.meets-else-meets.ensures.value.0 c.if-meets-2.true) c.column-then-meets-2.ensures))

pub returns-then-crosses : goal.returns-then-crosses
returns-then-crosses c =
    let mv = c.args.mv.now in
    let ways = ways_of c.sight_of-from.ensures c.sight_of-to.ensures in
    kept c.crossing.result (record { sfits = c.crossing.type_inv })
    (middle_crossing c.args.bit.now mv.from mv.to c.args.point ways _ c.meets.ensures.wide (c.crosses.ensures.0 c.if-crosses.true) c.crossing.ensures)

pub returns-then-crosses-2 : goal.returns-then-crosses-2
returns-then-crosses-2 c =
    let mv = c.args.mv.now in
    let ways = ways_of c.sight_of-to.ensures c.sight_of-from.ensures in
    kept c.crossing-then-crosses-2.result (record { sfits = c.crossing-then-crosses-2.type_inv })
    (middle_turned c.args.bit.now mv.to mv.from c.args.point _
    (middle_crossing c.args.bit.now mv.to mv.from c.args.point ways _ c.meets.ensures.wide (c.crosses-else-crosses.ensures.0 c.if-crosses-2.true) c.crossing-then-crosses-2.ensures))

pub returns-else-crosses-2 : goal.returns-else-crosses-2
returns-else-crosses-2 c =
    let mv = c.args.mv.now in
    let ways = ways_of c.sight_of-from.ensures c.sight_of-to.ensures in
    missed c.args.bit.now mv.from mv.to c.args.point ways
    (λ met. let yes = c.meets.ensures.value.1 met in let no = c.if-meets.false in cc)
    (λ met. let yes = c.meets-else-meets.ensures.value.1 met in let no = c.if-meets-2.false in cc)
    (λ met. let yes = c.crosses.ensures.1 met in let no = c.if-crosses.false in cc)
    (λ met. let yes = c.crosses-else-crosses.ensures.1 met in let no = c.if-crosses-2.false in cc)
