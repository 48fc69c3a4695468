-- The loop of `count_ones`: the bits of the words before those at hand are counted.
use Rattle.std.proofs.Common.{◌≡◌, ◌≤◌, ◌-◌, ◌*◌, length, sum_by, take}
use Rattle.std.specs.Int.RustNames.{count_ones}
use Rattle.lane_kernels.proofs.words.count_ones.Given as goal

abbrev pub invariant-loop-at : goal.invariant-loop-at
invariant-loop-at l = (l.count ≡ sum_by count_ones (take l.at l.words)) × (l.count ≤ 64 * l.at) × (l.at ≤ length l.words)

abbrev pub decreases-loop-at : goal.decreases-loop-at
decreases-loop-at l = length l.words - l.at
