-- The loop of `and_not`: the words before the ones at hand are cleared.
use Rattle.std.proofs.Common.{◌≡◌, ◌≤◌, ◌-◌, length}
use Rattle.lane_kernels.specs.Words.{without}
use Rattle.lane_kernels.proofs.Zipped.{joined_to}
use Rattle.lane_kernels.proofs.words.and_not.Given as goal

abbrev pub invariant-loop-a : goal.invariant-loop-a
invariant-loop-a l = (l.a ≡ joined_to without l.at l.fn.a l.b) × (l.at ≤ length l.b)

abbrev pub decreases-loop-a : goal.decreases-loop-a
decreases-loop-a l = length l.b - l.at
