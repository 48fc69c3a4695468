-- Answers the goals of `read_digits`.
use Rattle.std.proofs.Common.{◌≤◌, arith, get_or, lit<, sym, ◌∙◌}
use Rattle.std.proofs.Math.Nat.{pow-le-pow_right}
use Rattle.std.proofs.lemmas.Grind.{pow_more}
use Rattle.std.proofs.lemmas.Int.Digits.{digits_value_more}
use Rattle.grid_num.proofs.Digits.{all_ascii_digits_more, digits_of_other, digit_value_is}
use Rattle.grid_num.proofs.whole.read_digits.Goals as goal

pub returns-then-not-is_ascii_digit-clause-value :
    goal.returns-then-not-is_ascii_digit-clause-value
returns-then-not-is_ascii_digit-clause-value c =
    sym (digits_of_other c.args.text.now c.loop-byte.byte-index c.loop-byte-test.true (sym c.is_ascii_digit.ensures.value ∙ c.if-not-is_ascii_digit.true))

pub overflow_mul-number : goal.overflow_mul-number
overflow_mul-number c =
    let bound = (let h : c.loop-byte.byte-index ≤ 8 = omega arith in pow-le-pow_right {n = 10} (lit< tt) h) in
    omega (arith, c.loop-byte.invariant.2)

pub overflow_add-number : goal.overflow_add-number
overflow_add-number c =
    let bound = (let h : c.loop-byte.byte-index ≤ 8 = omega arith in pow-le-pow_right {n = 10} (lit< tt) h) in
    let digit = digit_value_is (get_or c.args.text.now c.loop-byte.byte-index 0) (sym c.is_ascii_digit.ensures.value ∙ c.if-not-is_ascii_digit.false) in
    omega (arith, c.loop-byte.invariant.2, digit.1)

pub loop-byte-preserved : goal.loop-byte-preserved
loop-byte-preserved c =
    let text = c.args.text.now in
    let i = c.loop-byte.byte-index in
    let is_digit = sym c.is_ascii_digit.ensures.value ∙ c.if-not-is_ascii_digit.false in
    let digit = digit_value_is (get_or text i 0) is_digit in
    let value = digits_value_more 10 text i c.loop-byte-test.true in
    let power = pow_more 10 i in
    (all_ascii_digits_more text i c.loop-byte-test.true c.loop-byte.invariant.0 is_digit, omega (arith, value, digit.0, digit.1, c.loop-byte.invariant.1), omega (arith, digit.1, power, c.loop-byte.invariant.2))
