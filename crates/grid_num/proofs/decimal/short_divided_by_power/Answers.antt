-- Answers the goals of `short_divided_by_power`.
use Rattle.std.proofs.Common.{arith}
use Rattle.grid_num.proofs.Powers.{power_pos}
use Rattle.grid_num.proofs.decimal.short_divided_by_power.Goals as goal

pub nonzero_rem-number : goal.nonzero_rem-number
nonzero_rem-number c = omega (arith, power_pos c.args.places)

pub nonzero_div-result : goal.nonzero_div-result
nonzero_div-result c = omega (arith, power_pos c.args.places)
