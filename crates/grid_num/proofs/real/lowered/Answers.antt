-- Answers the goals of `lowered`.
use Rattle.std.proofs.Common.{◌≡◌, ◌+◌, ◌-◌, ◌*◌, ◌/◌, ◌^◌, Bool, true, false, cond, refl, ap, sym, ◌∙◌, arith}
use mir.Val.{bool_byte}
use Rattle.grid_num.specs.Decimal.{in_size}
use Rattle.grid_num.specs.Real.{signed}
use Rattle.grid_num.proofs.Powers.{power_le, power_pos}
use Rattle.grid_num.proofs.Rounding.{nearest_is, nearest_size, nearest_small}
use Rattle.grid_num.proofs.real.lowered.Goals as goal

pub returns-then-tenths-gt-MOST_TENTHS : goal.returns-then-tenths-gt-MOST_TENTHS
returns-then-tenths-gt-MOST_TENTHS c =
    let small = nearest_small c.args.negative c.args.product _ (omega (arith, power_le 37 c.args.tenths (omega arith))) in
    sym (ap in_size small)

pub overflow_add-size : goal.overflow_add-size
overflow_add-size c = omega (arith, power_le c.args.tenths 36 (omega arith))

pub overflow_sub-size : goal.overflow_sub-size
overflow_sub-size c = let power = power_pos c.args.tenths in grind arith

pub overflow_mul-size-2 : goal.overflow_mul-size-2
overflow_mul-size-2 c = omega (arith, power_le c.args.tenths 36 (omega arith))

pub nonzero_div-size : goal.nonzero_div-size
nonzero_div-size c = omega (arith, power_pos c.args.tenths)

one_below_zero : (negative : Bool) → bool_byte negative ≡ cond negative 1 0
one_below_zero false = refl
one_below_zero true = refl

pub returns : goal.returns
returns c =
    let twice = 2 * c.args.product in
    let power = 10 ^ c.args.tenths in
    let size : (twice + c.power_of_ten-power.result - c.from.result) / (2 * c.power_of_ten-power.result) ≡ nearest_size c.args.negative c.args.product power =
    ap (λ n. (twice + n - c.from.result) / (2 * n)) c.power_of_ten-power.ensures ∙ ap (λ n. (twice + power - n) / (2 * power)) (c.from.ensures ∙ one_below_zero c.args.negative) in
    c.by_sign.ensures ∙ ap (λ n. in_size (signed c.args.negative n)) size ∙ ap in_size (sym (nearest_is c.args.negative c.args.product power (power_pos c.args.tenths)))
