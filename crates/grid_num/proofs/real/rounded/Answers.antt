-- Answers the goals of `rounded`.
use Rattle.std.proofs.Common.{◌+◌, ◌-◌, ◌*◌, arith}
use Rattle.grid_num.specs.Real.{scaled_real}
use Rattle.grid_num.proofs.Rounding.{nearest_lowered, nearest_raised}
use Rattle.grid_num.proofs.real.rounded.Goals as goal

pub returns-then-up-down : goal.returns-then-up-down
unfolding scaled_real
returns-then-up-down c =
    let number = c.number.inside in
    let product = number.digits * c.from.result in
    let tens = c.from-up.result - (number.places + c.from-2.result) in
    let whole = nearest_raised number.negative product c.from-up.result (number.places + c.from-2.result) tens (omega arith) in
    rw (← c.number.view_is, ← c.from.ensures, ← c.from-2.ensures, ← c.from-up.ensures, whole) c.raised.ensures

pub returns-else-up-down : goal.returns-else-up-down
unfolding scaled_real
returns-else-up-down c =
    let number = c.number.inside in
    let product = number.digits * c.from.result in
    let tenths = number.places + c.from-2.result - c.from-up.result in
    let part = nearest_lowered number.negative product c.from-up.result (number.places + c.from-2.result) tenths (omega arith) in
    rw (← c.number.view_is, ← c.from.ensures, ← c.from-2.ensures, ← c.from-up.ensures, part) c.lowered.ensures
