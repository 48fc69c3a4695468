-- What the loop of `clear_between` keeps.
use Rattle.std.proofs.Common.{◌*◌, ◌&&◌, nat_lt}
use Rattle.evenodd_region.specs.RowBits.{IsCleared, is_between}
use Rattle.evenodd_region.proofs.words.clear_between.Given as goal

abbrev pub invariant-loop-word : goal.invariant-loop-word
invariant-loop-word l = IsCleared (λ i. is_between l.from l.end i && nat_lt i (64 * l.word)) l.initial.bits l.bits
