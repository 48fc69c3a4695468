-- The invariants of the loop of `greatest_free`.
use Rattle.std.proofs.Common.{◌-◌, ◌≤◌}
use Rattle.tangent_disc.proofs.greatest.greatest_free.Given as goal

abbrev pub invariant-loop-most : goal.invariant-loop-most
invariant-loop-most l = (1 ≤ l.most) × (l.most ≤ l.rmax)

abbrev pub decreases-loop-most : goal.decreases-loop-most
decreases-loop-most l = l.rmax - l.most
