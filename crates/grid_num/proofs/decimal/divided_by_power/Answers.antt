-- Answers the goals of `divided_by_power`.
use Rattle.std.proofs.Common.{arith}
use Rattle.grid_num.proofs.Powers.{no_quotient, power_pos}
use Rattle.grid_num.proofs.decimal.divided_by_power.Goals as goal

pub returns-else-number-eq0 : goal.returns-else-number-eq0
returns-else-number-eq0 c = no_quotient c.args.number 38 c.args.places c.requires (omega arith) (omega arith)

pub nonzero_rem-number : goal.nonzero_rem-number
nonzero_rem-number c = omega (arith, power_pos c.args.places)

pub nonzero_div-result : goal.nonzero_div-result
nonzero_div-result c = omega (arith, power_pos c.args.places)
