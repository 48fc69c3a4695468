-- The invariant of the loop of `levels_of`: the edges before this one stand in the levels.
use Rattle.std.proofs.Common.{All, IsPermutation, take}
use Rattle.segment_grid.specs.Near.{entries_of}
use Rattle.segment_grid.specs.Open.{IsOpenSorted, entries_in_open}
use Rattle.segment_grid.proofs.build.levels_of.Given as goal

abbrev pub invariant-loop-number : goal.invariant-loop-number
invariant-loop-number l =
    IsPermutation (entries_of (take l.number l.edges)) (entries_in_open l.levels.items) × All IsOpenSorted l.levels.items
