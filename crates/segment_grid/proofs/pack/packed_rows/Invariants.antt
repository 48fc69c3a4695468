-- The invariant of the loop of `packed_rows`: the rows before this one are packed.
use Rattle.std.specs.List.{AllZip}
use Rattle.segment_grid.specs.Packed.{IsRowFrom}
use Rattle.segment_grid.proofs.pack.packed_rows.Given as goal

abbrev pub invariant-loop-row : goal.invariant-loop-row
invariant-loop-row l = AllZip (λ buckets row. IsRowFrom buckets.items row) l.yielded l.packed.items
