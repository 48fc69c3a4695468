-- Answers the goals of `value_after`.
use Rattle.std.proofs.Common.{arith}
use Rattle.grid_num.proofs.Runs.{le-digits_value_after-drop}
use Rattle.grid_num.proofs.numeral.value_after.Goals as goal

pub overflow_mul-number : goal.overflow_mul-number
overflow_mul-number c =
    omega (arith, le-digits_value_after-drop c.loop-digit.number c.args.digits.now c.loop-digit.digit-index c.loop-digit-test.true c.loop-digit.invariant.digits)

pub overflow_add-number : goal.overflow_add-number
overflow_add-number c =
    omega (arith, le-digits_value_after-drop c.loop-digit.number c.args.digits.now c.loop-digit.digit-index c.loop-digit-test.true c.loop-digit.invariant.digits)
