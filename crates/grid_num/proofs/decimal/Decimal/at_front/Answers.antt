-- Answers the goals of `Decimal::at_front`.
use Rattle.std.proofs.Common.{◌≡◌, get_or, rules}
use Rattle.grid_num.proofs.Front.{behind_minus}
use Rattle.grid_num.proofs.decimal.Decimal.at_front.Goals as goal

pub returns-in_ok-number-in-45-clause-value : goal.returns-in_ok-number-in-45-clause-value
returns-in_ok-number-in-45-clause-value c =
    let minus : get_or c.args.text.now 0 0 ≡ 45 = search rules in
    rw (behind_minus c.args.text.now c.in_ok-number-in-45.len c.in-45.len_at_least minus) c.in_ok-number-in-45.ensures.value

pub returns-in_ok-number-in-45-clause-bytes : goal.returns-in_ok-number-in-45-clause-bytes
returns-in_ok-number-in-45-clause-bytes c =
    let minus : get_or c.args.text.now 0 0 ≡ 45 = search rules in
    rw (behind_minus c.args.text.now c.in_ok-number-in-45.len c.in-45.len_at_least minus) c.in_ok-number-in-45.ensures.bytes
