-- Answers the goals of `marked_uncut`.
use Rattle.std.specs.Prelude.{List}
use Rattle.std.proofs.Common.{arith, subst, sym}
use Rattle.plane_exact.specs.Uncut.{GridRun}
use Rattle.coverage_report.specs.Points.{IsReportPoint}
use Rattle.coverage_report.specs.Report.{IsReportOf}
use Rattle.coverage_report.proofs.Reports.{all_reported, many_points, nothing_reported}
use Rattle.coverage_report.proofs.cover.marked_uncut.Goals as goal

pub returns-in_default : goal.returns-in_default
returns-in_default g c =
    let IsReported = IsReportPoint c.args.scene.now c.args.pitch in
    let IsMarked = g.M.Marks.is_marked c.args.marks.now in
    subst (λ (runs : List GridRun). IsReportOf IsReported IsMarked c.args.bit.now c.args.moves.now c.args.pitch (record { runs = runs; drawing = 0; left = 0 }))
    (sym c.new.ensures.items) (nothing_reported IsReported IsMarked c.args.bit.now c.args.moves.now c.args.pitch c.in_default.ensures)

pub returns-then-count-gt-MOST_POINTS : goal.returns-then-count-gt-MOST_POINTS
returns-then-count-gt-MOST_POINTS g c =
    let lattice = c.in-Some.lattice in
    let is = c.in-Some.ensures in
    let same = is.same in
    let count = c.count.ensures in
    many_points (IsReportPoint c.args.scene.now c.args.pitch) lattice (omega arith) is.points (omega arith)

pub returns : goal.returns
returns g c =
    let lattice = c.in-Some.lattice in
    let is = c.in-Some.ensures in
    let same = is.same in
    let count = c.count.ensures in
    let uncut = c.in_ok-take_rows.field-0 in
    all_reported (IsReportPoint c.args.scene.now c.args.pitch) lattice (omega arith) is.points (g.M.Marks.is_marked c.args.marks.now) c.args.bit.now c.args.moves.now c.args.pitch
    uncut.runs uncut.drawing uncut.left same (omega arith) c.in_ok-take_rows.ensures
