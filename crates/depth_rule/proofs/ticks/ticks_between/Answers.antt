-- Answers the goals of `ticks_between`.
use Rattle.std.specs.Prelude.{unsigned_abs}
use Rattle.std.proofs.Common.{◌≡◌, ◌+◌, ◌/◌, pos, ◌+ℤ◌, ◌-ℤ◌, ◌<ℤ◌, ap, arith, subst, sym}
use Rattle.std.proofs.lemmas.Int.{ints}
use Rattle.plane_exact.proofs.Stored.{narrow}
use Rattle.depth_rule.specs.Ticks.{AreTicks, IsMultiple}
use Rattle.depth_rule.proofs.Multiples.{least_multiple, natural_of, ticks_are}
use Rattle.depth_rule.proofs.ticks.ticks_between.Goals as goal

pub returns-then-first-high : goal.returns-then-first-high
returns-then-first-high c z multiple above under =
    let first = c.first_from-first.ensures in
    let next : c.first_from-first.result <ℤ (c.args.low +ℤ pos c.args.pitch) = (let next = first.next in omega (arith, ints)) in
    let least = least_multiple c.args.pitch c.requires.pitch.low c.args.low c.first_from-first.result z first.multiple next multiple above in
    absurd (omega (arith, ints))

pub returns : goal.returns
returns c =
    let first = c.first_from-first.ensures in
    let from = c.first_from-first.result in
    let above = first.above in
    let next = first.next in
    let way = natural_of (c.args.high -ℤ from) (omega (arith, ints)) in
    let way_is = way.is in
    let difference : narrow (narrow c.args.high -ℤ narrow from) ≡ pos way.number = omega (arith, ints) in
    let stored : narrow from ≡ from = omega (arith, ints) in
    subst (λ n. AreTicks c.args.low c.args.high c.args.pitch (narrow from) (n / c.args.pitch + 1)) (sym (ap unsigned_abs difference))
    (ticks_are c.args.low c.args.high (narrow from) c.args.pitch way.number c.requires.pitch.low (subst (IsMultiple c.args.pitch) (sym stored) first.multiple)
    (omega (arith, ints)) (omega (arith, ints)) (omega (arith, ints)))
