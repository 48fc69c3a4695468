-- Answers the goals of `count_cut`.
use Rattle.std.proofs.Common.{arith, subst, sym}
use Rattle.coverage_report.specs.Counts.{AreCounts}
use Rattle.coverage_report.specs.Cuts.{IsCut}
use Rattle.coverage_report.specs.Lattices.{IsBoxPoint}
use Rattle.coverage_report.proofs.CutCounts.{cut_counted}
use Rattle.coverage_report.proofs.Reports.{many_points}
use Rattle.coverage_report.proofs.count.count_cut.Goals as goal

pub returns-then-points-gt-MOST_POINTS : goal.returns-then-points-gt-MOST_POINTS
returns-then-points-gt-MOST_POINTS c =
    let is = c.in-Some.ensures in
    let same = is.same in
    let low = c.requires.low in
    let count = c.count-points.ensures in
    many_points (IsBoxPoint c.args.bounds.low c.args.bounds.high c.args.pitch) c.in-Some.lattice (omega arith) is.points (omega arith)

pub returns : goal.returns
returns c =
    let lattice = c.in-Some.lattice in
    let IsReported = IsBoxPoint c.args.bounds.low c.args.bounds.high c.args.pitch in
    let is = c.in-Some.ensures in
    let same = is.same in
    let low = c.requires.low in
    let count = c.count-points.ensures in
    subst (AreCounts IsReported (IsCut c.args.bit.now c.args.moves.now) c.in_ok-cut.cut) (sym count)
    (cut_counted c.args.bit.now c.args.moves.now lattice (omega arith) IsReported c.in_ok-cut.cut is.points (omega arith) c.in_ok-cut.ensures)
