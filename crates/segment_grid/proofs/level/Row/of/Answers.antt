-- With a bucket more the row has a cell more.
use Rattle.segment_grid.proofs.PackLaws.{cell_more}
use Rattle.segment_grid.proofs.level.Row.of.Goals as goal

pub loop-bucket-preserved : goal.loop-bucket-preserved
loop-bucket-preserved c =
    cell_more c.args.buckets.now c.loop-bucket.bucket-index c.bucket-item.result c.loop-bucket.row c.push_cell.new.self
    c.loop-bucket-test.true c.bucket-item.is c.loop-bucket.invariant c.in_ok-push_cell.ensures
