-- Answers the goals of `take_rows`.
use Rattle.std.proofs.Common.{◌≡◌, ◌+◌, ap, arith, subst, sym, ◌∙◌, ◌/◌}
use Rattle.coverage_report.specs.Rows.{PointRow}
use Rattle.coverage_report.specs.Taken.{AreRowsTaken, IsRowTaken}
use Rattle.coverage_report.proofs.CutGrids.{row_long, row_of, row_room}
use Rattle.coverage_report.proofs.LatticePoints.{sum_fits}
use Rattle.coverage_report.proofs.RowPoints.{few_set}
use Rattle.coverage_report.proofs.TakenRows.{none_taken, row_taken}
use Rattle.coverage_report.proofs.cover.take_rows.Goals as goal

pub row-cut-requires : goal.row-cut-requires
row-cut-requires g c =
    let end = c.rows-k-end.ensures.value in
    row_room c.args.bit.now c.args.moves.now c.args.lattice.now _ _ c.in_ok-cuts.ensures c.loop-k.k (omega arith)

pub take_row-requires-clause-cut : goal.take_row-requires-clause-cut
take_row-requires-clause-cut g c =
    let end = c.rows-k-end.ensures.value in
    row_long c.args.bit.now c.args.moves.now c.args.lattice.now _ _ c.in_ok-cuts.ensures c.loop-k.k (omega arith) c.row-cut.result.now c.row-cut.ensures
    ∙ ap (λ (r : PointRow). (r.count + 63) / 64) (sym c.row-row.ensures)

pub loop-k-init : goal.loop-k-init
loop-k-init g c =
    let IsMarked = g.M.Marks.is_marked c.args.marks.now in
    let lattice = c.args.lattice.now in record {
      words = (let len = c.in_ok-bits.ensures.len in let columns = c.columns.ensures.value in omega arith);
      taken = subst (λ runs. AreRowsTaken IsMarked c.args.bit.now c.args.moves.now lattice 0 runs 0 0) (sym c.new-runs.ensures.items)
          (none_taken IsMarked c.args.bit.now c.args.moves.now lattice c.columns.ensures.range.apart);
    }

pub overflow_add-drawing : goal.overflow_add-drawing
overflow_add-drawing g c =
    let end = c.rows-k-end.ensures.value in
    let row = c.in_ok-counts.ensures c.args.bit.now c.args.moves.now
    (row_of c.args.bit.now c.args.moves.now c.args.lattice.now _ _ c.in_ok-cuts.ensures c.loop-k.k (omega arith) c.row-row.result c.row-cut.result.now c.row-row.ensures c.row-cut.ensures)
    in
    let taken = c.loop-k.invariant.taken in
    let count = ap (λ (r : PointRow). r.count) c.row-row.ensures in
    let counted = row.counts_marked in
    let few = few_set row.marked c.row-row.result in
    sum_fits c.args.lattice.now c.columns.ensures.range c.loop-k.k c.loop-k.drawing c.in_ok-counts.counts.drawing (omega arith) taken.all_drawn.few (omega arith)

pub overflow_add-left : goal.overflow_add-left
overflow_add-left g c =
    let end = c.rows-k-end.ensures.value in
    let row = c.in_ok-counts.ensures c.args.bit.now c.args.moves.now
    (row_of c.args.bit.now c.args.moves.now c.args.lattice.now _ _ c.in_ok-cuts.ensures c.loop-k.k (omega arith) c.row-row.result c.row-cut.result.now c.row-row.ensures c.row-cut.ensures)
    in
    let taken = c.loop-k.invariant.taken in
    let count = ap (λ (r : PointRow). r.count) c.row-row.ensures in
    let counted = row.counts_spared in
    let few = few_set row.spared c.row-row.result in
    sum_fits c.args.lattice.now c.columns.ensures.range c.loop-k.k c.loop-k.left c.in_ok-counts.counts.left (omega arith) taken.all_left.few (omega arith)

pub loop-k-preserved : goal.loop-k-preserved
loop-k-preserved g c =
    let IsMarked = g.M.Marks.is_marked c.args.marks.now in
    let lattice = c.args.lattice.now in
    let counts = c.in_ok-counts.counts in
    let end = c.rows-k-end.ensures.value in
    let row = subst (λ row. IsRowTaken IsMarked c.args.bit.now c.args.moves.now row c.loop-k.runs.items c.take_row.new.runs.items counts.drawing counts.left)
    c.row-row.ensures (c.in_ok-counts.ensures c.args.bit.now c.args.moves.now
    (row_of c.args.bit.now c.args.moves.now c.args.lattice.now _ _ c.in_ok-cuts.ensures c.loop-k.k (omega arith) c.row-row.result c.row-cut.result.now c.row-row.ensures c.row-cut.ensures))
    in
    record {
      words = c.loop-k.invariant.words;
      taken = row_taken IsMarked c.args.bit.now c.args.moves.now lattice c.columns.ensures.range.apart c.loop-k.k c.loop-k.runs.items c.take_row.new.runs.items
          c.loop-k.drawing c.loop-k.left counts.drawing counts.left row c.loop-k.invariant.taken;
    }

pub returns : goal.returns
returns g c =
    let end = c.rows-k-end.ensures.value in
    let all : c.loop-k.k ≡ c.args.lattice.now.rows = omega arith in
    subst (λ k. AreRowsTaken (g.M.Marks.is_marked c.args.marks.now) c.args.bit.now c.args.moves.now c.args.lattice.now k c.loop-k.runs.items c.loop-k.drawing c.loop-k.left) all
    c.loop-k.invariant.taken
