-- Answers the goals of `Sight::crosses`.
use Rattle.std.proofs.Common.{arith, pos, ◌<ℤ◌}
use Rattle.std.proofs.lemmas.Int.{ints}
use Rattle.swept_move.proofs.Sights.{less_same}
use Rattle.swept_move.proofs.Ways.{read_way}
use Rattle.swept_move.proofs.sight.Sight.crosses.Goals as goal

pub returns-then-upper-gt0 : goal.returns-then-upper-gt0
returns-then-upper-gt0 c =
    let lower = c.args.self in
    let upper = c.args.upper in
    let here = lower.way.up in
    let there = upper.way.up in
    let low = c.if-self-lt0.true in
    let high = c.if-upper-gt0.true in
    let less = less_same (read_way lower.way.up).value (read_way upper.range).value (read_way upper.way.up).value (read_way lower.range).value c.is_less.ensures in
    let under : lower.way.y <ℤ pos 0 = omega (arith, ints) in
    let over : pos 0 <ℤ upper.way.y = omega (arith, ints) in
    ((λ yes. record { under = under; over = over; deep = less.0 yes }), (λ crosses. less.1 crosses.deep))
