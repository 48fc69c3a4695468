-- Answers the goals of `counted_in_both`.
use Rattle.std.proofs.Common.{arith}
use Rattle.std.proofs.lemmas.Bool.Decides.{nat_tests}
use Rattle.grid_num.proofs.Runs.{counted_digits-append, counted_digits-le}
use Rattle.grid_num.proofs.decimal.counted_in_both.Goals as goal

pub overflow_add-result : goal.overflow_add-result
overflow_add-result c = omega (arith, counted_digits-le c.args.whole.now, c.counted.ensures)

pub returns-in-0 : goal.returns-in-0
returns-in-0 c = grind (arith, nat_tests, counted_digits-append c.args.whole.now c.args.fraction.now)

pub returns-in_default : goal.returns-in_default
returns-in_default c = grind (arith, nat_tests, counted_digits-append c.args.whole.now c.args.fraction.now)
