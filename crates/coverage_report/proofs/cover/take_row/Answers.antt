-- Answers the goals of `take_row`.
use Rattle.std.proofs.Common.{◌≡◌, arith, subst}
use Rattle.std.proofs.lemmas.Int.{ints}
use Rattle.plane_exact.proofs.Stored.{narrow}
use Rattle.coverage_report.specs.Marked.{IsRowMarked}
use Rattle.coverage_report.specs.Rows.{PointRow}
use Rattle.coverage_report.proofs.CutGrids.{spared_of}
use Rattle.coverage_report.proofs.cover.take_row.Goals as goal

pub returns : goal.returns
returns g c cone moves cuts =
    let IsMarked = g.M.Marks.is_marked c.args.marks.now in
    let row = c.row.inside in
    let up = c.row.invariant.up in
    let low = up.low in
    let high = up.high in
    let first = c.row.invariant.first in
    let left = first.low in
    let right = first.high in
    let y : narrow row.y ≡ row.y = omega (arith, ints) in
    let x : narrow row.x ≡ row.x = omega (arith, ints) in
    let marked = subst (λ x. IsRowMarked IsMarked row.y x row.pitch row.count c.mark_row.new.bits) x
    (subst (λ y. IsRowMarked IsMarked y (narrow row.x) row.pitch row.count c.mark_row.new.bits) y c.mark_row.ensures)
    in
    let are_marked = subst (λ (r : PointRow). IsRowMarked IsMarked r.y r.x r.pitch r.count c.mark_row.new.bits) c.row.view_is marked in
    record {
      marked = c.mark_row.new.bits;
      spared = c.clear_cut.new.bits;
      are_marked = are_marked;
      are_spared = spared_of cone moves c.args.row.now c.args.cut.now c.mark_row.new.bits c.clear_cut.new.bits (λ i set. ((are_marked.marked i).0 set).0) cuts c.clear_cut.ensures;
      counts_marked = c.count_set-drawing.ensures;
      counts_spared = c.count_set-left.ensures;
      pushed = c.in_ok-push_runs.ensures;
    }
