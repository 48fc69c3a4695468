-- Answers the goals of `inside_ratio`.
use Rattle.std.proofs.Common.{arith, refl, ◌∙◌}
use Rattle.std.proofs.lemmas.Int.{ints}
use Rattle.engrave_model.specs.Drawing.{edges_of}
use Rattle.evenodd_region.proofs.Answered.{answered}
use Rattle.evenodd_region.proofs.InBand.{answered_by_band}
use Rattle.evenodd_region.proofs.RowNumbers.{row_read}
use Rattle.evenodd_region.proofs.rows.inside_ratio.Goals as goal

pub returns : goal.returns
returns c loops w rows_are is =
    let some = c.requires.positive in
    let small = c.requires.small in
    let left = c.requires.across.low in
    let right = c.requires.across.high in
    let below = c.requires.up.low in
    let above = c.requires.up.high in
    answered _ _ _ _ w refl
    (is.same_x ∙ omega (arith, ints))
    (is.same_y ∙ omega (arith, ints))
    (is.same_over ∙ omega (arith, ints))
    (answered_by_band _ _ (row_read _ _ (record { sfits = c.row_of-row.type_inv }) c.row_of-row.ensures) _ c.args.rows.now (edges_of loops) _ (c.band_of.ensures loops rows_are) c.is_inside_at.ensures)
