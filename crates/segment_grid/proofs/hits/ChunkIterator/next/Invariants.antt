-- The loop of `Chunk::next`: what is left stays until a flagged number comes.
use Rattle.std.proofs.Common.{◌≡◌, length}
use Rattle.segment_grid.specs.Walk.{flags_left}
use Rattle.segment_grid.proofs.hits.ChunkIterator.next.Given as goal

abbrev pub invariant-loop-number : goal.invariant-loop-number
invariant-loop-number l = flags_left l.self ≡ flags_left l.fn.self

abbrev pub decreases-loop-number : goal.decreases-loop-number
decreases-loop-number l = length l.self.numbers.now
