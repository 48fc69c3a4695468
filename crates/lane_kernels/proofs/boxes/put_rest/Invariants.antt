-- The invariants of the loop of `put_rest`.
use Rattle.std.proofs.Common.{◌≡◌, ◌≤◌, ◌-◌, length, map, take}
use Rattle.lane_kernels.specs.Boxes.{hit_of}
use Rattle.lane_kernels.proofs.boxes.put_rest.Given as goal

abbrev pub invariant-loop-at : goal.invariant-loop-at
invariant-loop-at l = (take l.at l.out ≡ map (hit_of l.q) (take l.at l.boxes)) × (length l.out ≡ length l.boxes) × (l.at ≤ length l.boxes)

abbrev pub decreases-loop-at : goal.decreases-loop-at
decreases-loop-at l = length l.boxes - l.at
