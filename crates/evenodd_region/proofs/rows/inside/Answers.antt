-- Answers the goals of `inside`.
use Rattle.plane_exact.specs.Plane.{rational}
use Rattle.engrave_model.specs.Drawing.{edges_of}
use Rattle.evenodd_region.proofs.InBand.{answered_by_band, row_of_grid}
use Rattle.evenodd_region.proofs.rows.inside.Goals as goal

pub returns : goal.returns
returns c loops rows_are =
    answered_by_band _ (rational c.args.p) (row_of_grid c.y.result c.args.p c.y.ensures.value c.y.ensures.range.up) _ c.args.rows.now (edges_of loops) _
    (c.band_of.ensures loops rows_are) c.is_inside.ensures
