-- The invariants of the loop of `greatest_free_of`.
use Rattle.std.proofs.Common.{◌-◌}
use Rattle.depth_rule.proofs.Bisection.{Brackets}
use Rattle.tangent_disc.specs.Touch.{IsFreeOf}
use Rattle.tangent_disc.proofs.greatest.greatest_free_of.Given as goal

abbrev pub invariant-loop-low : goal.invariant-loop-low
invariant-loop-low l = Brackets (λ j. IsFreeOf l.touch.side l.touch.point j l.edge) l.most l.low l.high

abbrev pub decreases-loop-low : goal.decreases-loop-low
decreases-loop-low l = l.high - l.low
