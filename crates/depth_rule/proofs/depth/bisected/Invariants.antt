-- The invariants of the loop of `bisected`.
use Rattle.std.proofs.Common.{◌-◌}
use Rattle.engrave_model.specs.Depth.{IsEdgeClear}
use Rattle.depth_rule.proofs.Bisection.{Brackets}
use Rattle.depth_rule.proofs.depth.bisected.Given as goal

abbrev pub invariant-loop-low : goal.invariant-loop-low
invariant-loop-low l = Brackets (λ z. IsEdgeClear l.bit l.p z l.e) l.most l.low l.high

abbrev pub decreases-loop-low : goal.decreases-loop-low
decreases-loop-low l = l.high - l.low
