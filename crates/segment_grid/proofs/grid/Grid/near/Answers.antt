-- The asked buckets have every edge that is near.
use Rattle.segment_grid.proofs.AskedLaws.{asked_near}
use Rattle.segment_grid.proofs.grid.Grid.near.Goals as goal

pub returns : goal.returns
returns c = rw (c.none.ensures, c.of.ensures, c.as_slice.ensures.value) (asked_near c.args.q c.args.self.now c.args.d.now c.requires)
