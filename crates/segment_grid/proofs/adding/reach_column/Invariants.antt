-- The invariants of the loop of `reach_column`.
use Rattle.std.proofs.Common.{◌+◌, ◌-◌, vec_len}
use Rattle.segment_grid.specs.Added.{IsBareBucket, IsExtended}
use Rattle.segment_grid.proofs.adding.reach_column.Given as goal

abbrev pub invariant-loop-alloc : goal.invariant-loop-alloc
invariant-loop-alloc l = IsExtended IsBareBucket l.fn.row.items l.row.items

abbrev pub decreases-loop-alloc : goal.decreases-loop-alloc
decreases-loop-alloc l = l.column + 1 - vec_len l.row
