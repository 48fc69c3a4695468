-- Answers the goals of `count_rows`.
use Rattle.std.proofs.Common.{length, refl, ap, arith, ◌∙◌}
use Rattle.coverage_report.specs.Lattices.{row_at}
use Rattle.coverage_report.specs.Rows.{PointRow, set_points}
use Rattle.coverage_report.proofs.CutCounts.{row_in_rows}
use Rattle.coverage_report.proofs.CutGrids.{row_of}
use Rattle.coverage_report.proofs.LatticePoints.{sum_fits}
use Rattle.coverage_report.proofs.RowPoints.{few_set}
use Rattle.coverage_report.proofs.count.count_rows.Goals as goal

pub overflow_add-cut : goal.overflow_add-cut
overflow_add-cut c =
    let end = c.rows-k-end.ensures.value in
    let count = ap (λ (r : PointRow). r.count) c.row.ensures in
    let counted = c.count_set-cut.ensures in
    let few = few_set c.row-in-loop-k.result.now c.row.result in
    sum_fits c.args.lattice.now c.columns-columns.ensures.range c.loop-k.k c.loop-k.cut c.count_set-cut.result (omega arith) c.loop-k.invariant.are.few (omega arith)

pub loop-k-preserved : goal.loop-k-preserved
loop-k-preserved c =
    let cone = c.args.bit.now in
    let moves = c.args.moves.now in
    let lattice = c.args.lattice.now in
    let k = c.loop-k.k in
    let words = c.row-in-loop-k.result.now in
    let end = c.rows-k-end.ensures.value in
    row_in_rows cone moves lattice c.columns-columns.ensures.range.apart k words c.loop-k.cut c.count_set-cut.result
    (row_of cone moves lattice _ _ c.in_ok-cuts.ensures k (omega arith) (row_at lattice k) words refl c.row-in-loop-k.ensures)
    (c.count_set-cut.ensures ∙ ap (λ (r : PointRow). length (set_points words r)) c.row.ensures) c.loop-k.invariant
