-- Answers the goal of a scene's `mark_row`.
use Rattle.std.proofs.Common.{◌≡◌, arith, subst}
use Rattle.std.proofs.lemmas.Int.{ints}
use Rattle.plane_exact.proofs.Stored.{narrow}
use Rattle.engrave_model.specs.Drawing.{edges_of}
use Rattle.evenodd_region.specs.RowBits.{IsRowOf}
use Rattle.coverage_report.proofs.marks.SceneMarks.mark_row.Goals as goal

pub returns : goal.returns
returns c =
    let edges = edges_of c.args.self.now in
    let up = c.requires.row in
    let low = up.low in
    let high = up.high in
    let first = c.requires.first in
    let left = first.low in
    let right = first.high in
    let y : narrow c.args.y ≡ c.args.y = omega (arith, ints) in
    let x : narrow c.args.x0 ≡ c.args.x0 = omega (arith, ints) in
    let row = subst (λ x. IsRowOf edges c.args.y x c.args.pitch c.args.count c.row_inside.new.bits) x
    (subst (λ y. IsRowOf edges y (narrow c.args.x0) c.args.pitch c.args.count c.row_inside.new.bits) y c.row_inside.ensures)
    in
    record { marked = row.inside }
