-- The invariant of the loop of `Row::of`: the buckets before this one stand in the row.
use Rattle.std.proofs.Common.{take}
use Rattle.segment_grid.specs.Packed.{IsRowFrom}
use Rattle.segment_grid.proofs.level.Row.of.Given as goal

abbrev pub invariant-loop-bucket : goal.invariant-loop-bucket
invariant-loop-bucket l = IsRowFrom (take l.bucket-index l.buckets) l.row
