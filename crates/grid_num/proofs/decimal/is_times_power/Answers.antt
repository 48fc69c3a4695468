-- Answers the goals of `is_times_power`.
use Rattle.std.proofs.Common.{arith}
use Rattle.std.proofs.lemmas.Bool.Decides.{nat_tests}
use Rattle.grid_num.proofs.Powers.{is_multiple, times_power_le}
use Rattle.grid_num.proofs.decimal.is_times_power.Goals as goal

pub returns-then-number-eq0 : goal.returns-then-number-eq0
returns-then-number-eq0 c =
    grind (arith, nat_tests, is_multiple c.args.number c.args.factor 28 c.args.places c.requires (omega arith))

pub returns-else-number-eq0 : goal.returns-else-number-eq0
returns-else-number-eq0 c =
    grind (arith, nat_tests, is_multiple c.args.number c.args.factor 28 c.args.places c.requires (omega arith))

pub overflow_mul-result : goal.overflow_mul-result
overflow_mul-result c =
    rw (c.from.ensures, c.power_of_ten.ensures) (omega (arith, times_power_le c.args.factor 4294967295 c.args.places 27 (omega arith) (omega arith)))
