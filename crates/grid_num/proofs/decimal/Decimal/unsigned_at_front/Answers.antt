-- Answers the goals of `Decimal::unsigned_at_front`.
use Rattle.std.proofs.Common.{◌+◌, ◌-◌, length, take, drop, arith}
use Rattle.std.proofs.lemmas.List.{length-take-le}
use Rattle.grid_num.proofs.Front.{Writes-point, Writes-whole, take_past}
use Rattle.grid_num.proofs.decimal.Decimal.unsigned_at_front.Goals as goal

pub returns-then-len-text-clause-value : goal.returns-then-len-text-clause-value
returns-then-len-text-clause-value c =
    let size = length-take-le c.digits_at_front-whole.result.1 c.args.text.now c.digits_at_front-whole.ensures.within in
    let writes = Writes-whole c.args.negative (take c.digits_at_front-whole.result.1 c.args.text.now) c.digits_at_front-whole.ensures.digits (omega (arith, size, c.in_ok-number.ensures.some)) (omega (arith, size, c.in_ok-number.ensures.few)) in
    rw (c.in_ok-number.ensures.value, c.digits_at_front-whole.ensures.value) writes.value

pub returns-then-len-text-clause-bytes : goal.returns-then-len-text-clause-bytes
returns-then-len-text-clause-bytes c =
    let size = length-take-le c.digits_at_front-whole.result.1 c.args.text.now c.digits_at_front-whole.ensures.within in
    (Writes-whole c.args.negative (take c.digits_at_front-whole.result.1 c.args.text.now) c.digits_at_front-whole.ensures.digits (omega (arith, size, c.in_ok-number.ensures.some)) (omega (arith, size, c.in_ok-number.ensures.few))).bytes

pub returns-clause-value : goal.returns-clause-value
returns-clause-value c =
    let text = c.args.text.now in
    let n = c.digits_at_front-whole.result.1 in
    let m = c.digits_at_front-digits.result.1 in
    let behind = take (length text - (n + 1)) (drop (n + 1) text) in
    let size = length-take-le n text c.digits_at_front-whole.ensures.within in
    let places = length-take-le m behind c.digits_at_front-digits.ensures.within in
    let writes = Writes-point c.args.negative (take n text) (take m behind) m places c.digits_at_front-whole.ensures.digits c.digits_at_front-digits.ensures.digits (omega (arith, size, c.in_ok-number-2.ensures.some)) (omega (arith, size, c.in_ok-number-2.ensures.few)) in
    let past = take_past text n m (omega (arith, c.digits_at_front-whole.ensures.within, c.if-len-text.false)) c.if-text-len-ne46.false in
    rw (past, c.in_ok-number-2.ensures.value, c.digits_at_front-digits.ensures.value, c.digits_at_front-whole.ensures.value) writes.value

pub returns-clause-bytes : goal.returns-clause-bytes
returns-clause-bytes c =
    let text = c.args.text.now in
    let n = c.digits_at_front-whole.result.1 in
    let m = c.digits_at_front-digits.result.1 in
    let behind = take (length text - (n + 1)) (drop (n + 1) text) in
    let size = length-take-le n text c.digits_at_front-whole.ensures.within in
    let places = length-take-le m behind c.digits_at_front-digits.ensures.within in
    let writes = Writes-point c.args.negative (take n text) (take m behind) m places c.digits_at_front-whole.ensures.digits c.digits_at_front-digits.ensures.digits (omega (arith, size, c.in_ok-number-2.ensures.some)) (omega (arith, size, c.in_ok-number-2.ensures.few)) in
    let past = take_past text n m (omega (arith, c.digits_at_front-whole.ensures.within, c.if-len-text.false)) c.if-text-len-ne46.false in
    rw past writes.bytes
