-- What the loop of `flip_below` keeps.
use Rattle.std.proofs.Common.{◌*◌}
use Rattle.evenodd_region.specs.RowBits.{IsFlipped}
use Rattle.evenodd_region.proofs.words.flip_below.Given as goal

abbrev pub invariant-loop-word : goal.invariant-loop-word
invariant-loop-word l = IsFlipped (64 * l.word) l.initial.bits l.bits
