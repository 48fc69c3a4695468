-- Answers the goals of `stroke_bounds`.
use Rattle.std.specs.Int.{div_ceil}
use Rattle.std.proofs.Common.{◌≡◌, ℕ, ◌*◌, ◌≤◌, ℤ, pos, neg_ℤ, ◌+ℤ◌, ◌-ℤ◌, ap₂, arith, ◌∙◌}
use Rattle.std.proofs.lemmas.Int.{ints}
use Rattle.std.proofs.lemmas.Nat.{mul-le}
use Rattle.plane_exact.specs.Cone.{Cone}
use Rattle.plane_exact.specs.Plane.{GridPoint}
use Rattle.stroke_engrave.specs.Bounds.{reach_of, to_coordinate}
use Rattle.swept_move.proofs.Reaches.{ceil_least}
use Rattle.stroke_engrave.proofs.bounds.stroke_bounds.Goals as goal

-- the reach isn't too far for its type
small_reach : (cone : Cone) (depth : ℕ) → 1 ≤ cone.sd → cone.sn ≤ 2000 → depth ≤ 32767 → reach_of cone depth ≤ 65534000
small_reach cone depth some slope shallow =
    let product : cone.sn * depth ≤ 2000 * 32767 = mul-le cone.sn depth 2000 32767 slope shallow in
    let whole : 65534000 ≤ cone.sd * 65534000 = omega (arith, some) in
    ceil_least (cone.sn * depth) cone.sd 65534000 (omega arith) (omega arith)

lower_is : (p q : GridPoint) (reach : ℕ) (by : ℤ) → q ≡ record { x = to_coordinate (p.x +ℤ by); y = to_coordinate (p.y +ℤ by) } → by ≡ neg_ℤ (pos reach)
    → q ≡ record { x = to_coordinate (p.x -ℤ pos reach); y = to_coordinate (p.y -ℤ pos reach) }
lower_is p q reach by is less =
    let x : p.x +ℤ by ≡ p.x -ℤ pos reach = omega (arith, ints) in
    let y : p.y +ℤ by ≡ p.y -ℤ pos reach = omega (arith, ints) in
    is ∙ ap₂ (λ x y. record { x = to_coordinate x; y = to_coordinate y }) x y

upper_is : (p q : GridPoint) (reach : ℕ) (by : ℤ) → q ≡ record { x = to_coordinate (p.x +ℤ by); y = to_coordinate (p.y +ℤ by) } → by ≡ pos reach
    → q ≡ record { x = to_coordinate (p.x +ℤ pos reach); y = to_coordinate (p.y +ℤ pos reach) }
upper_is p q reach by is more =
    let x : p.x +ℤ by ≡ p.x +ℤ pos reach = omega (arith, ints) in
    let y : p.y +ℤ by ≡ p.y +ℤ pos reach = omega (arith, ints) in
    is ∙ ap₂ (λ x y. record { x = to_coordinate x; y = to_coordinate y }) x y

pub shifted-requires : goal.shifted-requires
shifted-requires c =
    let bit = c.args.bit.now in
    let some = c.sd.ensures.range.over.low in
    let small = small_reach bit c.args.depth some c.sd.ensures.range.slope.high c.requires in
    let is : c.div_ceil.result ≡ reach_of bit c.args.depth = c.div_ceil.ensures ∙ ap₂ (λ n d. div_ceil (n * c.args.depth) d) c.sn.ensures.value c.sd.ensures.value in
    let wide = c.from-reach.ensures in
    record { low = omega (arith, ints); high = omega (arith, ints) }

pub shifted-requires-2 : goal.shifted-requires-2
shifted-requires-2 c =
    let bit = c.args.bit.now in
    let some = c.sd.ensures.range.over.low in
    let small = small_reach bit c.args.depth some c.sd.ensures.range.slope.high c.requires in
    let is : c.div_ceil.result ≡ reach_of bit c.args.depth = c.div_ceil.ensures ∙ ap₂ (λ n d. div_ceil (n * c.args.depth) d) c.sn.ensures.value c.sd.ensures.value in
    let wide = c.from-reach.ensures in
    record { low = omega (arith, ints); high = omega (arith, ints) }

pub returns : goal.returns
returns c =
    let bit = c.args.bit.now in
    let ends = c.in_ok-ends.ends in
    let some = c.sd.ensures.range.over.low in
    let small = small_reach bit c.args.depth some c.sd.ensures.range.slope.high c.requires in
    let is : c.div_ceil.result ≡ reach_of bit c.args.depth = c.div_ceil.ensures ∙ ap₂ (λ n d. div_ceil (n * c.args.depth) d) c.sn.ensures.value c.sd.ensures.value in
    let wide = c.from-reach.ensures in
    record {
      first = ends.low;
      last = ends.high;
      ends = c.in_ok-ends.ensures;
      lower = lower_is ends.low c.shifted.result (reach_of bit c.args.depth) _ c.shifted.ensures (omega (arith, ints));
      upper = upper_is ends.high c.shifted-2.result (reach_of bit c.args.depth) _ c.shifted-2.ensures (omega (arith, ints));
    }
