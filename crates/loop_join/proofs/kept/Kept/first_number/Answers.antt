-- Answers the goals of `Kept::first_number`.
use Rattle.std.proofs.Common.{ap, subst, ◌∙◌}
use Rattle.loop_join.specs.Cells.{strip_of}
use Rattle.loop_join.specs.Keeping.{AreIndexed, KeptPoints}
use Rattle.loop_join.proofs.Places.{earliest_of_columns}
use Rattle.loop_join.proofs.kept.Kept.first_number.Goals as goal

pub returns : goal.returns
returns c =
    let are = subst (λ (k : KeptPoints). AreIndexed k.tolerance k.points c.self.inside.cells) c.self.view_is c.self.invariant in
    let column_is = c.square_of-column.ensures.column ∙ ap (λ (k : KeptPoints). strip_of k.tolerance c.args.p.x) c.self.view_is in
    let row_is = c.square_of-column.ensures.row ∙ ap (λ (k : KeptPoints). strip_of k.tolerance c.args.p.y) c.self.view_is in
    let left = c.first_in_column-left in
    let middle = c.first_in_column-middle in
    let first = c.first_in_column in
    earliest_of_columns c.args.self.now.tolerance c.args.self.now.points c.args.p c.square_of-column.result.0 c.square_of-column.result.1 left.result middle.result first.result are.on_grid c.square_of-column.ensures.on_grid column_is row_is
    left.ensures.least left.ensures.found middle.ensures.keeps middle.ensures.least middle.ensures.found first.ensures.keeps first.ensures.least first.ensures.found
