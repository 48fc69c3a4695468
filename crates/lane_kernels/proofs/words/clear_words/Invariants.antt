-- The loop of `clear_words`: the words before the one at hand are cleared.
use Rattle.std.proofs.Common.{◌≡◌}
use Rattle.lane_kernels.specs.Words.{without}
use Rattle.lane_kernels.proofs.Zipped.{joined_to}
use Rattle.lane_kernels.proofs.words.clear_words.Given as goal

abbrev pub invariant-loop-i : goal.invariant-loop-i
invariant-loop-i l = l.a ≡ joined_to without l.i l.fn.a l.b
