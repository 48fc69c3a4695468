-- The loop of `ones_of_words`: the bits of the words before the one at hand are counted.
use Rattle.std.proofs.Common.{◌≡◌, ◌≤◌, ◌*◌, sum_by, take}
use Rattle.std.specs.Int.RustNames.{count_ones}
use Rattle.lane_kernels.proofs.words.ones_of_words.Given as goal

abbrev pub invariant-loop-word : goal.invariant-loop-word
invariant-loop-word l = (l.count ≡ sum_by count_ones (take l.word-index l.words)) × (l.count ≤ 64 * l.word-index)
