-- Answers the goals of `OpenDisc::box_around`.
use Rattle.std.proofs.Common.{◌≡◌, ℕ, ◌≤◌, ℤ, pos, negsuc, ◌+ℤ◌, ◌-ℤ◌, to_z, w32, arith, refl}
use Rattle.std.proofs.lemmas.Int.{ints}
use Rattle.integer_algebra.specs.Ranges.{IsWithin}
use Rattle.plane_exact.proofs.Stored.{narrow, wide}
use Rattle.tangent_disc.specs.OpenDisc.{centre_of}
use Rattle.tangent_disc.proofs.Beyond.{missed}
use Rattle.integer_algebra.proofs.Floors.{floor_same}
use Rattle.tangent_disc.proofs.open_disc.OpenDisc.box_around.Goals as goal

minus : (a : ℤ) (n : ℕ) → IsWithin (negsuc 40959) (pos 40959) a → n ≤ 8191 → narrow (narrow a -ℤ to_z w32 n) ≡ a -ℤ pos n
minus a n within few = let low = within.low in let high = within.high in omega (arith, ints)

plus : (a : ℤ) (n : ℕ) → IsWithin (negsuc 40959) (pos 40959) a → n ≤ 8191 → narrow (narrow a +ℤ to_z w32 n) ≡ a +ℤ pos n
plus a n within few = let low = within.low in let high = within.high in omega (arith, ints)

pub overflow_sub-result : goal.overflow_sub-result
overflow_sub-result c =
    let range = c.grid_floor-column.ensures.range in
    let low = range.low in
    let high = range.high in
    let most = c.requires.low in
    omega (arith, ints)

pub overflow_sub-result-2 : goal.overflow_sub-result-2
overflow_sub-result-2 c =
    let range = c.grid_floor-row.ensures.range in
    let low = range.low in
    let high = range.high in
    let most = c.requires.low in
    omega (arith, ints)

pub returns : goal.returns
returns c e misses =
    let d = c.args.self.now in
    let column = c.grid_floor-column.result in
    let row = c.grid_floor-row.result in
    let some = d.range.some in
    let small = d.range.small in
    let x_low = d.range.near_x.low in
    let x_high = d.range.near_x.high in
    let y_low = d.range.near_y.low in
    let y_high = d.range.near_y.high in
    let x : wide d.x ≡ d.x = omega (arith, ints) in
    let y : wide d.y ≡ d.y = omega (arith, ints) in
    let over : wide d.over ≡ d.over = omega (arith, ints) in
    let across = c.grid_floor-column.ensures.range in
    let up = c.grid_floor-row.ensures.range in
    missed (centre_of d) d.reach c.args.radius c.requires.wide e column row
    (floor_same x over refl c.grid_floor-column.ensures.floor)
    (floor_same y over refl c.grid_floor-row.ensures.floor)
    _ (minus column c.args.radius across c.requires.low) (plus column c.args.radius across c.requires.low)
    (minus row c.args.radius up c.requires.low) (plus row c.args.radius up c.requires.low) misses
