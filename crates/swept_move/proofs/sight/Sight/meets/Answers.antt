-- Answers the goals of `Sight::meets`.
use mir.Syntax.{w64}
use Rattle.std.proofs.Common.{◌≡◌, pos, neg_ℤ, ◌-ℤ◌, to_z, arith}
use Rattle.std.proofs.lemmas.Int.{ints}
use Rattle.swept_move.proofs.Sights.{less_same}
use Rattle.swept_move.proofs.Ways.{read_way}
use Rattle.swept_move.proofs.Widths.{held}
use Rattle.swept_move.proofs.sight.Sight.meets.Goals as goal

pub returns-then-is_less-clause-value : goal.returns-then-is_less-clause-value
returns-then-is_less-clause-value c =
    let s = c.args.self in
    let bit = c.args.bit.now in
    let way = s.way.up in
    let most = c.sd.ensures.range.slope.high in
    let most_over = c.sd.ensures.range.over.high in
    let slope = c.sn.ensures.value in
    let over = c.sd.ensures.value in
    let sn : to_z w64 c.sn.result ≡ pos bit.sn = omega (arith, ints) in
    let sd : to_z w64 c.sd.result ≡ pos bit.sd = omega (arith, ints) in
    let down : held w64 (pos 0 -ℤ held w64 s.way.y) ≡ neg_ℤ s.way.y = omega (arith, ints) in
    let depth = (read_way s.range).value in
    let above = less_same sd (read_way s.way.up).value sn depth c.is_less.ensures in
    let below = less_same sd down sn depth c.is_less-then-is_less.ensures in
    ((λ yes. record { above = above.0 c.if-is_less.true; below = below.0 yes }), (λ meets. below.1 meets.below))
