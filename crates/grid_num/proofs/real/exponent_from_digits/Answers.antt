-- Answers the goals of `exponent_from_digits`.
use Rattle.std.proofs.Common.{arith, sym, ◌∙◌}
use Rattle.grid_num.proofs.Runs.{counted_digits-le, digits_value-lt_counted}
use Rattle.grid_num.proofs.real.exponent_from_digits.Goals as goal

pub value_after-size-requires-clause-fits : goal.value_after-size-requires-clause-fits
value_after-size-requires-clause-fits c =
    let digits = c.args.digits.now in
    omega (arith, digits_value-lt_counted 3 digits (sym c.is_all_digits.ensures ∙ c.if-not-is_all_digits.false) (omega (arith, counted_digits-le digits)))

pub overflow_cast-size : goal.overflow_cast-size
overflow_cast-size c =
    let digits = c.args.digits.now in
    omega (arith, digits_value-lt_counted 3 digits (sym c.is_all_digits.ensures ∙ c.if-not-is_all_digits.false) (omega (arith, counted_digits-le digits)), c.value_after-size.ensures)
