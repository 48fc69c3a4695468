-- The invariant and the measure of the loop of `count_of_loop`.
use Rattle.std.proofs.Common.{◌≡◌, ◌≤◌, ◌-◌, All, length, take}
use Rattle.carve_plan.proofs.round.count_of_loop.Given as goal

abbrev pub invariant-loop-count : goal.invariant-loop-count
invariant-loop-count l = record {
  within : l.count ≤ length l.stops;
  same : All (λ stop. stop.loop_no ≡ l.loop_no) (take l.count l.stops);
}

abbrev pub decreases-loop-count : goal.decreases-loop-count
decreases-loop-count l = length l.stops - l.count
