-- Answers the goals of `read_hexadecimal`.
use Rattle.std.proofs.Common.{◌≡◌, ◌≤◌, ◌&&◌, arith, length, lit<, nat_le, true}
use Rattle.std.proofs.Math.Nat.{pow-le-pow_right}
use Rattle.std.proofs.lemmas.Bool.Decides.{nat_tests}
use Rattle.std.proofs.lemmas.Grind.{pow_more}
use Rattle.std.proofs.lemmas.Int.Digits.{digits_value_more}
use Rattle.std.proofs.lemmas.List.{take_all}
use Rattle.cxf_font.proofs.Digits.{hexadecimal_more, hexadecimal_of-all, hexadecimal_of-none, hexadecimal_of-other}
use Rattle.cxf_font.proofs.key.read_hexadecimal.Goals as goal

pub returns-then-is_empty : goal.returns-then-is_empty
returns-then-is_empty c = hexadecimal_of-none c.args.digits.now (grind (arith, nat_tests, c.then-is_empty.either, c.is_empty.ensures))

pub overflow_mul-number : goal.overflow_mul-number
overflow_mul-number c =
    let h : c.loop-digit.digit-index ≤ 5 = omega arith in
    omega (arith, pow-le-pow_right {n = 16} (lit< tt) h, c.loop-digit.invariant.small)

pub overflow_add-number : goal.overflow_add-number
overflow_add-number c =
    let h : c.loop-digit.digit-index ≤ 5 = omega arith in
    let digit = c.in_ok-number.ensures.value in
    omega (arith, pow-le-pow_right {n = 16} (lit< tt) h, c.loop-digit.invariant.small, digit.0, digit.1)

pub returns-in_err-number : goal.returns-in_err-number
returns-in_err-number c =
    rw c.from_residual.ensures (hexadecimal_of-other c.args.digits.now c.loop-digit.digit-index c.loop-digit-test.true (rw c.from.ensures at c.in_err-number.ensures.value))

pub loop-digit-preserved : goal.loop-digit-preserved
loop-digit-preserved c =
    let text = c.args.digits.now in
    let i = c.loop-digit.digit-index in
    let digit = rw c.from.ensures at c.in_ok-number.ensures.value in
    let power = pow_more 16 i in
    let value = digits_value_more 16 text i c.loop-digit-test.true in
    record {
      digits = hexadecimal_more text i c.loop-digit-test.true c.loop-digit.invariant.digits digit.0;
      value = omega (arith, value, digit.1, c.loop-digit.invariant.value);
      small = omega (arith, digit.0, digit.1, power, c.loop-digit.invariant.small);
    }

pub returns : goal.returns
returns c =
    let text = c.args.digits.now in
    let whole = take_all c.loop-digit.digit-index text (omega arith) in
    let few : (nat_le 1 (length text) && nat_le (length text) 6) ≡ true = grind (arith, nat_tests, c.is_empty.ensures, c.if-is_empty.false) in
    hexadecimal_of-all text c.loop-digit.number few (rw whole at c.loop-digit.invariant.digits) (rw whole at c.loop-digit.invariant.value)
