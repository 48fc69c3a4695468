-- Answers the goals of `first_quarter`.
use Rattle.std.proofs.Common.{arith, sym, ◌∙◌, refl}
use Rattle.arc_flatten.specs.Directions.{in_quarter}
use Rattle.arc_flatten.proofs.Steps.{towards_end, turn_one, turn_zero}
use Rattle.arc_flatten.proofs.quarter.first_quarter.Goals as goal
use Rattle.arc_flatten.proofs.quarter.first_quarter.Goals.{then-f-done-eq1, else-f-done-eq1}

pub loop-done-init : goal.loop-done-init
unfolding in_quarter
loop-done-init c = refl

pub loop-done-preserved : goal.loop-done-preserved
loop-done-preserved c =
    elim c.if-f-done-eq1.branch [
      | then-f-done-eq1 w ↦ turn_one _ c.args.f _ _ _ _ _ _ c.loop-done-test.true c.halfway-half.ensures c.loop-done.invariant w.if-f-done-eq1.true w.s-is w.t-is
      | else-f-done-eq1 w ↦ turn_zero _ c.args.f _ _ _ _ _ _ c.loop-done-test.true c.halfway-half.ensures c.loop-done.invariant w.if-f-done-eq1.false w.s-is w.t-is
    ]

pub returns : goal.returns
returns c = sym (towards_end _ c.args.f c.loop-done.s c.loop-done.t (omega arith)) ∙ c.loop-done.invariant
