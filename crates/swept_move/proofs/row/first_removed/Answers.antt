-- Answers the goals of `first_removed`.
use Rattle.std.proofs.Common.{◌+◌, ◌-◌, ◌/◌, arith, sym, ◌∙◌}
use Rattle.std.proofs.lemmas.Int.{ints}
use Rattle.swept_move.specs.Search.{RemovesBehind}
use Rattle.swept_move.proofs.Rows.{made, removes_left, removes_right}
use Rattle.swept_move.proofs.Searches.{sought_above, sought_all, sought_below, sought_found}
use Rattle.swept_move.proofs.row.first_removed.Goals as goal
use Rattle.swept_move.proofs.row.first_removed.Goals.{else-middle-from, then-middle-from}

pub loop-low-init : goal.loop-low-init
loop-low-init c = sought_all (RemovesBehind c.args.bit.now c.args.mv.now c.args.row.now.start) c.args.row.now.last

pub loop-low-preserved-then-point_removed : goal.loop-low-preserved-then-point_removed
loop-low-preserved-then-point_removed c =
    let bit = c.args.bit.now in
    let mv = c.args.mv.now in
    let p = c.args.row.now.start in
    let low = c.loop-low.low in
    let high = c.loop-low.high in
    let half = low + (high - low) / 2 in
    let less = c.loop-low-test.true in
    sought_below (RemovesBehind bit mv p) c.args.row.now.last low high half c.loop-low.invariant (omega arith) (omega arith)
    (elim c.if-middle-from.branch [
      | then-middle-from w ↦ λ j beyond there. removes_right bit mv p c.args.middle half j c.requires
          (let fits = c.ranges.middle in let read = c.from.ensures in let test = w.if-middle-from.true in omega (arith, ints)) beyond there
      | else-middle-from w ↦ λ j beyond there. (made bit mv p half w.point.ensures).0 (w.point_removed.ensures.0 (sym w.value-is ∙ c.if-point_removed.true))
    ])

pub loop-low-preserved : goal.loop-low-preserved
loop-low-preserved c =
    let bit = c.args.bit.now in
    let mv = c.args.mv.now in
    let p = c.args.row.now.start in
    let low = c.loop-low.low in
    let high = c.loop-low.high in
    let half = low + (high - low) / 2 in
    let less = c.loop-low-test.true in
    sought_above (RemovesBehind bit mv p) c.args.row.now.last low high half c.loop-low.invariant (omega arith)
    (elim c.if-middle-from.branch [
      | then-middle-from w ↦ λ j beyond there. let yes = w.if-middle-from.true in let same = w.value-is in let no = c.if-point_removed.false in cc
      | else-middle-from w ↦ λ j beyond there.
          let yes = w.point_removed.ensures.1 ((made bit mv p half w.point.ensures).1 (removes_left bit mv p c.args.middle half j c.requires
          (let fits = c.ranges.middle in let read = c.from.ensures in let test = w.if-middle-from.false in omega (arith, ints)) beyond there)) in
          let same = w.value-is in
          let no = c.if-point_removed.false in
          cc
    ])

pub returns : goal.returns
returns c = let done = c.loop-low-test.false in sought_found (RemovesBehind c.args.bit.now c.args.mv.now c.args.row.now.start) c.args.row.now.last c.loop-low.low c.loop-low.high c.loop-low.invariant (omega arith)
