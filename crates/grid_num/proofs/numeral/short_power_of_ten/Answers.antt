-- Answers the goals of `short_power_of_ten`.
use Rattle.std.proofs.Common.{arith}
use Rattle.grid_num.proofs.Powers.{power_le}
use Rattle.grid_num.proofs.numeral.short_power_of_ten.Goals as goal

pub overflow_mul-power : goal.overflow_mul-power
overflow_mul-power c = omega (arith, power_le c.loop.counter 18 (omega arith))
