-- Answers the goals of `digits_at_front`.
use Rattle.std.proofs.Common.{arith, get_or, sym, ◌∙◌}
use Rattle.grid_num.proofs.Digits.{all_ascii_digits_more, digit_value_is, digits_value_after_more}
use Rattle.grid_num.proofs.numeral.digits_at_front.Goals as goal

pub loop-i-preserved : goal.loop-i-preserved
loop-i-preserved c =
    let text = c.args.text.now in
    let i = c.loop-i.i in
    let inside = c.loop-i-test.true in
    let is_digit = sym c.is_ascii_digit.ensures.value ∙ c.if-not-is_ascii_digit.false in
    let digit = digit_value_is (get_or text i 0) is_digit in
    record {
      value = omega (arith, digits_value_after_more c.args.value text i inside, digit.0, c.from.ensures, c.loop-i.invariant.value);
      digits = all_ascii_digits_more text i inside c.loop-i.invariant.digits is_digit;
    }
