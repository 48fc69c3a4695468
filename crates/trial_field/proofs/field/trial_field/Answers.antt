-- Answers the goals of `trial_field`.
use Rattle.std.proofs.Common.{◌∙◌, ◌++◌, ap, sym, arith, length, sum_by}
use Rattle.trial_field.specs.Field.{cell_loops}
use Rattle.trial_field.proofs.Cells.{trial_loops_more, trial_loops_none, trial_points}
use Rattle.trial_field.proofs.field.trial_field.Goals as goal

pub loop-cell-init : goal.loop-cell-init
loop-cell-init c = c.empty-field.ensures ∙ trial_loops_none

pub push_cell-requires-clause-few : goal.push_cell-requires-clause-few
push_cell-requires-clause-few c =
    let counted = ap (sum_by length) c.loop-cell.invariant ∙ trial_points c.loop-cell.cell in
    omega (arith, counted)

pub loop-cell-preserved : goal.loop-cell-preserved
loop-cell-preserved c =
    c.in_ok-push_cell.ensures ∙ ap (λ loops. loops ++ cell_loops c.loop-cell.cell) c.loop-cell.invariant ∙ sym (trial_loops_more c.loop-cell.cell)
