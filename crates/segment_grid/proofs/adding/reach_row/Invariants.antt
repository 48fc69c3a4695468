-- The invariants of the loop of `reach_row`.
use Rattle.std.proofs.Common.{◌≡◌, [], ◌+◌, ◌-◌, vec_len}
use Rattle.segment_grid.specs.Added.{IsExtended}
use Rattle.segment_grid.proofs.adding.reach_row.Given as goal

abbrev pub invariant-loop-alloc : goal.invariant-loop-alloc
invariant-loop-alloc l = IsExtended (λ row. row.items ≡ []) l.fn.rows.items l.rows.items

abbrev pub decreases-loop-alloc : goal.decreases-loop-alloc
decreases-loop-alloc l = l.row + 1 - vec_len l.rows
