-- Answers the goals of `box_round`.
use mir.Syntax.{w32}
use Rattle.std.specs.Int.{div_ceil}
use Rattle.std.proofs.Common.{◌≡◌, ℕ, ◌*◌, ◌<◌, ◌≤◌, subst, sym, arith, ℤ, pos, ◌+ℤ◌, ◌-ℤ◌, to_z, of_z}
use Rattle.std.proofs.lemmas.Int.{ints}
use Rattle.plane_exact.specs.Plane.{IsCoordinate}
use Rattle.swept_move.proofs.Reaches.{ceil_enough, ceil_least}
use Rattle.flat_bit.proofs.Aparts.{missed_is_apart}
use Rattle.flat_bit.proofs.apart.box_round.Goals as goal

-- the sides, as the code has them
low_side : (r x : ℤ) (n : ℕ) → IsCoordinate x → r ≡ x → n ≤ 32764 → to_z w32 (of_z w32 (to_z w32 (of_z w32 r) -ℤ to_z w32 n)) ≡ x -ℤ pos n
low_side r x n on is small = let low = on.low in let high = on.high in omega (arith, ints)

high_side : (r x : ℤ) (n : ℕ) → IsCoordinate x → r ≡ x → n ≤ 32764 → to_z w32 (of_z w32 (to_z w32 (of_z w32 r) +ℤ to_z w32 n)) ≡ x +ℤ pos n
high_side r x n on is small = let low = on.low in let high = on.high in omega (arith, ints)

pub returns : goal.returns
returns c e =
    let p = c.args.p in
    let reach = c.args.reach in
    let over = c.args.over in
    let radius = c.div_ceil-radius.result in
    let some : 0 < over = (let low = c.requires.over.low in omega arith) in
    let is : radius ≡ div_ceil reach over = c.div_ceil-radius.ensures in
    let wide : reach ≤ over * radius = subst (λ r. reach ≤ over * r) (sym is) (ceil_enough reach over some) in
    let near = c.requires.reach in
    let small : radius ≤ 32764 = subst (λ r. r ≤ 32764) (sym is) (ceil_least reach over 32764 some (omega arith)) in
    let on = c.x.ensures.range in
    missed_is_apart reach over p e radius _ wide (
      low_side c.x.result p.x radius on.across c.x.ensures.value small,
      low_side c.y.result p.y radius on.up c.y.ensures.value small,
      high_side c.x-2.result p.x radius on.across c.x-2.ensures.value small,
      high_side c.y-2.result p.y radius on.up c.y-2.ensures.value small,
    )
