-- Answers the goals of `last_removed`.
use Rattle.std.proofs.Common.{◌-◌, ◌/◌, ◌<◌, arith, sym, ◌∙◌}
use Rattle.std.proofs.lemmas.Int.{ints}
use Rattle.swept_move.specs.Search.{RemovesBehind}
use Rattle.swept_move.proofs.Rows.{made, removes_between, removes_left}
use Rattle.swept_move.proofs.Searches.{reaching_above, reaching_all, reaching_below, reaching_found}
use Rattle.swept_move.proofs.row.last_removed.Goals as goal
use Rattle.swept_move.proofs.row.last_removed.Goals.{else-from-middle, then-from-middle}

pub loop-low-init : goal.loop-low-init
loop-low-init c = reaching_all (RemovesBehind c.args.bit.now c.args.mv.now c.args.row.now.start) c.args.row.now.last c.args.first c.requires.within c.requires.removed

pub loop-low-preserved-then-point_removed : goal.loop-low-preserved-then-point_removed
loop-low-preserved-then-point_removed c =
    let bit = c.args.bit.now in
    let mv = c.args.mv.now in
    let p = c.args.row.now.start in
    let low = c.loop-low.low in
    let high = c.loop-low.high in
    let half = high - (high - low) / 2 in
    let less = c.loop-low-test.true in
    reaching_above (RemovesBehind bit mv p) c.args.row.now.last low high half c.loop-low.invariant (omega arith)
    (elim c.if-from-middle.branch [
      | then-from-middle w ↦ removes_left bit mv p c.args.middle half low c.requires.middle
          (let fits = c.ranges.middle in let read = c.from.ensures in let test = w.if-from-middle.true in omega (arith, ints)) (omega arith) c.loop-low.invariant.holds
      | else-from-middle w ↦ (made bit mv p half w.point.ensures).0 (w.point_removed.ensures.0 (sym w.value-is ∙ c.if-point_removed.true))
    ])

pub loop-low-preserved : goal.loop-low-preserved
loop-low-preserved c =
    let bit = c.args.bit.now in
    let mv = c.args.mv.now in
    let p = c.args.row.now.start in
    let low = c.loop-low.low in
    let high = c.loop-low.high in
    let half = high - (high - low) / 2 in
    let less = c.loop-low-test.true in
    let above : low < half = omega arith in
    let no = c.if-point_removed.false in
    reaching_below (RemovesBehind bit mv p) c.args.row.now.last low high half c.loop-low.invariant above (omega arith)
    (elim c.if-from-middle.branch [
      | then-from-middle w ↦ λ j beyond there. let yes = w.if-from-middle.true in let same = w.value-is in cc
      | else-from-middle w ↦ λ j beyond there.
          let yes = w.point_removed.ensures.1 ((made bit mv p half w.point.ensures).1 (removes_between bit mv p low half j (omega arith) beyond c.loop-low.invariant.holds there)) in
          let same = w.value-is in
          cc
    ])

pub returns : goal.returns
returns c =
    let done = c.loop-low-test.false in
    reaching_found (RemovesBehind c.args.bit.now c.args.mv.now c.args.row.now.start) c.args.row.now.last c.loop-low.low c.loop-low.high c.loop-low.invariant (omega arith)
