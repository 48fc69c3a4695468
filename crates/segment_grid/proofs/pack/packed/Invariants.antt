-- The invariant of the loop of `packed`: the levels before this one are packed.
use Rattle.std.specs.List.{AllZip}
use Rattle.segment_grid.specs.Packed.{IsLevelFrom}
use Rattle.segment_grid.proofs.pack.packed.Given as goal

abbrev pub invariant-loop-level : goal.invariant-loop-level
invariant-loop-level l = AllZip IsLevelFrom l.yielded l.packed.items
