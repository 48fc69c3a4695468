-- Answers the goals of `lines_around`.
use Rattle.std.proofs.Common.{pos, arith, subst, sym}
use Rattle.std.proofs.lemmas.Int.{ints}
use Rattle.integer_algebra.specs.Floors.{IsFloor}
use Rattle.integer_algebra.proofs.Floors.{floor_of}
use Rattle.swept_move.proofs.span.lines_around.Goals as goal

pub returns : goal.returns
returns c =
    let on = c.requires.at in
    let low = on.low in
    let high = on.high in
    let small = c.requires.radius in
    let lower = subst (IsFloor _ (pos 10)) (sym c.div_euclid.ensures) (floor_of _ (pos 10) (record { le = tt })) in
    let upper = subst (IsFloor _ (pos 10)) (sym c.div_euclid-2.ensures) (floor_of _ (pos 10) (record { le = tt })) in
    let first = lower.low in
    let least = lower.high in
    let last = upper.low in
    let most = upper.high in
    let fits = c.div_euclid.type_inv in
    let fits' = c.div_euclid-2.type_inv in
    record { first = omega (arith, ints); least = omega (arith, ints); last = omega (arith, ints); most = omega (arith, ints) }
