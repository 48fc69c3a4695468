-- One row more is packed.
use Rattle.std.proofs.Common.{sym}
use Rattle.segment_grid.specs.Packed.{IsRowFrom}
use Rattle.segment_grid.proofs.PackLaws.{zip_more}
use Rattle.segment_grid.proofs.pack.packed_rows.Goals as goal

pub loop-row-preserved : goal.loop-row-preserved
loop-row-preserved c =
    zip_more (λ buckets row. IsRowFrom buckets.items row) c.loop-row.yielded c.loop-row.packed.items c.push.new.self.items c.in-Some.row
    c.in_ok-of.field-0 c.loop-row.invariant (rw (sym c.as_slice.ensures.value) c.in_ok-of.ensures) c.in_ok-push.ensures.items
