-- The invariants of the loop of `bounds_of_starts`.
use Rattle.depth_rule.proofs.Boxes.{IsBoxSoFar}
use Rattle.depth_rule.proofs.bounds.bounds_of_starts.Given as goal

abbrev pub invariant-loop-edge : goal.invariant-loop-edge
invariant-loop-edge l = IsBoxSoFar l.edges l.edge-index l.low l.high
