-- The invariants of the loop of `greatest_clear`.
use Rattle.std.proofs.Common.{◌≡◌, ◌≤◌, ◌-◌}
use Rattle.depth_rule.proofs.depth.greatest_clear.Given as goal

abbrev pub invariant-loop-asked : goal.invariant-loop-asked
invariant-loop-asked l = (l.asked ≤ l.most) × (l.asked ≡ 0 → l.most ≡ 0)

abbrev pub decreases-loop-asked : goal.decreases-loop-asked
decreases-loop-asked l = l.most - l.asked
