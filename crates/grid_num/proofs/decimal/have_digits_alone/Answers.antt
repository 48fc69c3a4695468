-- Answers the goals of `have_digits_alone`.
use Rattle.std.proofs.Common.{arith, length-append}
use Rattle.std.proofs.lemmas.Bool.Decides.{nat_tests}
use Rattle.grid_num.proofs.Runs.{all_ascii_digits-append}
use Rattle.grid_num.proofs.decimal.have_digits_alone.Goals as goal

pub returns-then-is_all_digits : goal.returns-then-is_all_digits
returns-then-is_all_digits c =
    grind (arith, nat_tests, all_ascii_digits-append c.args.whole.now c.args.fraction.now, length-append c.args.whole.now c.args.fraction.now)

pub returns-else-is_all_digits : goal.returns-else-is_all_digits
returns-else-is_all_digits c =
    grind (arith, nat_tests, all_ascii_digits-append c.args.whole.now c.args.fraction.now, length-append c.args.whole.now c.args.fraction.now)
