-- Answers the goals of `disc_box`.
use mir.Syntax.{w32}
use Rattle.std.specs.Int.{div_ceil}
use Rattle.std.proofs.Common.{◌≡◌, ℕ, ◌*◌, ◌<◌, ◌≤◌, ◌∙◌, ap₂, subst, sym, arith, ℤ, pos, ◌+ℤ◌, ◌-ℤ◌, to_z, of_z}
use Rattle.std.proofs.lemmas.Int.{ints}
use Rattle.std.proofs.lemmas.Nat.{mul-le}
use Rattle.plane_exact.specs.Plane.{IsCoordinate}
use Rattle.swept_move.proofs.Reaches.{ceil_enough, ceil_least}
use Rattle.depth_rule.proofs.Aside.{missed_is_clear}
use Rattle.depth_rule.proofs.around.disc_box.Goals as goal

-- the sides, as the code has them
low_side : (r x : ℤ) (n : ℕ) → IsCoordinate x → r ≡ x → n ≤ 65534000 → to_z w32 (of_z w32 (to_z w32 (of_z w32 r) -ℤ to_z w32 n)) ≡ x -ℤ pos n
low_side r x n on is small = let low = on.low in let high = on.high in omega (arith, ints)

high_side : (r x : ℤ) (n : ℕ) → IsCoordinate x → r ≡ x → n ≤ 65534000 → to_z w32 (of_z w32 (to_z w32 (of_z w32 r) +ℤ to_z w32 n)) ≡ x +ℤ pos n
high_side r x n on is small = let low = on.low in let high = on.high in omega (arith, ints)

pub returns : goal.returns
returns c =
    let bit = c.args.bit.now in
    let p = c.args.p in
    let z = c.args.z in
    let radius = c.div_ceil-radius.result in
    let some : 0 < bit.sd = (let over = c.sd.ensures.range.over.low in omega arith) in
    let is : radius ≡ div_ceil (bit.sn * z) bit.sd = c.div_ceil-radius.ensures ∙ ap₂ (λ n d. div_ceil (n * z) d) c.sn.ensures.value c.sd.ensures.value in
    let wide : bit.sn * z ≤ bit.sd * radius = subst (λ r. bit.sn * z ≤ bit.sd * r) (sym is) (ceil_enough (bit.sn * z) bit.sd some) in
    let product : bit.sn * z ≤ 2000 * 32767 = mul-le bit.sn z 2000 32767 c.sd.ensures.range.slope.high c.requires in
    let small : radius ≤ 65534000 = subst (λ r. r ≤ 65534000) (sym is) (ceil_least (bit.sn * z) bit.sd 65534000 some (omega arith)) in
    let on = c.x.ensures.range in
    missed_is_clear bit p z radius _ wide (
      low_side c.x.result p.x radius on.across c.x.ensures.value small,
      low_side c.y.result p.y radius on.up c.y.ensures.value small,
      high_side c.x-2.result p.x radius on.across c.x-2.ensures.value small,
      high_side c.y-2.result p.y radius on.up c.y-2.ensures.value small,
    )
