-- Answers the goals of `shifted`.
use Rattle.std.specs.Prelude.{IfSome}
use Rattle.std.specs.Int.{int_max, int_min}
use Rattle.std.proofs.Common.{◌≡◌, ℤ, pos, negsuc, ◌+ℤ◌, ◌≤ℤ◌, arith, ap, ap₂, subst, ◌∙◌}
use Rattle.std.proofs.lemmas.Int.{ints}
use Rattle.plane_exact.specs.Plane.{GridPoint}
use Rattle.plane_exact.proofs.Stored.{wide}
use Rattle.stroke_engrave.specs.Bounds.{to_coordinate}
use Rattle.stroke_engrave.proofs.bounds.shifted.Goals as goal

-- a number that is cut to the coordinates, as the code has it
cut_is : (r t z : ℤ) → r ≡ int_max (negsuc 32767) (int_min t (pos 32767)) → negsuc 32767 ≤ℤ r → r ≤ℤ pos 32767 → t ≡ z → wide r ≡ to_coordinate z
cut_is r t z is low high same = (let e : wide r ≡ r = omega (arith, ints) in e) ∙ is ∙ ap to_coordinate same

pub unwrap-requires : goal.unwrap-requires
unwrap-requires c =
    let x = c.clamp-x.ensures in
    let x_low = x.lower_bound in
    let x_high = x.upper_bound in
    let y = c.clamp-y.ensures in
    let y_low = y.lower_bound in
    let y_high = y.upper_bound in
    c.new.ensures.range.1 (record {
      across = record { low = omega (arith, ints); high = omega (arith, ints) };
      up = record { low = omega (arith, ints); high = omega (arith, ints) };
    })

pub returns : goal.returns
returns c =
    let on = c.x.ensures.range in
    let across = on.across in
    let x_first = across.low in
    let x_last = across.high in
    let up = on.up in
    let y_first = up.low in
    let y_last = up.high in
    let x_is = c.x.ensures.value in
    let y_is = c.y.ensures.value in
    let from = c.from.ensures in
    let from_2 = c.from-2.ensures in
    let low = c.requires.low in
    let high = c.requires.high in
    let x = c.clamp-x.ensures in
    let y = c.clamp-y.ensures in
    let at : GridPoint = record { x = wide c.clamp-x.result; y = wide c.clamp-y.result } in
    let there : c.unwrap.result ≡ at = subst (λ o. IfSome o (λ p. p ≡ at)) c.unwrap.ensures c.new.ensures.value in
    there
    ∙ ap₂ (λ x y. record { x = x; y = y }) (cut_is c.clamp-x.result (wide (wide c.from.result +ℤ wide c.args.by)) (c.args.p.x +ℤ c.args.by) x.value x.lower_bound x.upper_bound (omega (arith, ints)))
    (cut_is c.clamp-y.result (wide (wide c.from-2.result +ℤ wide c.args.by)) (c.args.p.y +ℤ c.args.by) y.value y.lower_bound y.upper_bound (omega (arith, ints)))
