-- Answers the goals of `is_centre_inside`.
use Rattle.std.proofs.Common.{◌≡◌, arith, sym, ◌∙◌}
use Rattle.std.proofs.lemmas.Int.{ints}
use Rattle.plane_exact.proofs.Stored.{widest}
use Rattle.tangent_disc.specs.OpenDisc.{centre_of}
use Rattle.tangent_disc.proofs.chosen.is_centre_inside.Goals as goal

pub returns : goal.returns
returns c =
    let d = c.disc-disc.result in
    let some = d.range.some in
    let small = d.range.small in
    let x_low = d.range.near_x.low in
    let x_high = d.range.near_x.high in
    let y_low = d.range.near_y.low in
    let y_high = d.range.near_y.high in
    let x : widest c.from.result ≡ d.x = omega (arith, ints) in
    let y : widest c.from-2.result ≡ d.y = omega (arith, ints) in
    let over : widest c.from-3.result ≡ d.over = omega (arith, ints) in
    let is = c.disc-disc.ensures in (
      (λ yes. record {
        centre = centre_of d;
        is = record { same_x = is.across; same_y = is.up; same_over = is.denominator };
        inside = (c.inside_at.ensures (centre_of d) (record { same_x = sym x; same_y = sym y; same_over = sym over })).0 yes;
      }),
      (λ inside. (c.inside_at.ensures inside.centre (record {
        same_x = inside.is.same_x ∙ sym (x ∙ is.across);
        same_y = inside.is.same_y ∙ sym (y ∙ is.up);
        same_over = inside.is.same_over ∙ sym (over ∙ is.denominator);
      })).1 inside.inside),
    )
