-- Answers the goals of `disc_at`.
use mir.Syntax.{w64}
use Rattle.std.proofs.Common.{◌≡◌, ℤ, pos, ◌≤ℤ◌, FitsSigned, arith, ap, false, true, refl, ◌∙◌}
use Rattle.std.proofs.lemmas.Int.{ints, to_z-of_z}
use Rattle.plane_exact.proofs.Stored.{wide}
use Rattle.plane_exact.specs.Plane.{GridPoint}
use Rattle.evenodd_region.specs.Lookup.{IsNearGrid}
use Rattle.tangent_disc.specs.Tangent.{IsRounded, centre_over}
use Rattle.tangent_disc.specs.Ways.{most_over}
use Rattle.tangent_disc.proofs.Centres.{rounded_on_grid, rounded_same}
use Rattle.tangent_disc.proofs.chosen.disc_at.Goals as goal

-- what the code's rounding says of a coordinate of the centre
read_rounded : (z over r centre denominator at : ℤ) → pos 1 ≤ℤ over → over ≤ℤ most_over → IsNearGrid z over → FitsSigned w64 r → z ≡ centre → over ≡ denominator
    → at ≡ wide r → IsRounded (wide z) (wide over) r → IsRounded centre denominator at
read_rounded z over r centre denominator at some small near fits z_is over_is at_is rounded =
    let low = near.low in
    let high = near.high in
    let z_read : wide z ≡ z = omega (arith, ints) in
    let over_read : wide over ≡ over = omega (arith, ints) in
    rounded_same centre denominator r (wide z) (wide over) at (z_read ∙ z_is) (over_read ∙ over_is) (at_is ∙ to_z-of_z w64 r fits) rounded

never : false ≡ true → ⊥
never e = cc

pub unreachable-requires : goal.unreachable-requires
unreachable-requires c =
    let d = c.disc-disc.result.range in
    let is = c.disc-disc.ensures in
    let some = d.some in
    let over = is.denominator in
    let positive : pos 1 ≤ℤ centre_over c.args.touch.now.point = omega (arith, ints) in
    never (c.in-None.ensures.range.1 (record {
      across = rounded_on_grid _ _ _ positive c.requires.on_grid.across
          (read_rounded _ _ _ _ _ _ d.some d.small d.near_x (record { sfits = c.nearest-x.type_inv }) is.across is.denominator refl c.nearest-x.ensures);
      up = rounded_on_grid _ _ _ positive c.requires.on_grid.up
          (read_rounded _ _ _ _ _ _ d.some d.small d.near_y (record { sfits = c.nearest-y.type_inv }) is.up is.denominator refl c.nearest-y.ensures);
    }))

pub returns-clause-across : goal.returns-clause-across
returns-clause-across c =
    let d = c.disc-disc.result.range in
    let is = c.disc-disc.ensures in
    read_rounded _ _ _ _ _ _ d.some d.small d.near_x (record { sfits = c.nearest-x.type_inv }) is.across is.denominator
    (ap (λ (p : GridPoint). p.x) c.in-Some.ensures.value) c.nearest-x.ensures

pub returns-clause-up : goal.returns-clause-up
returns-clause-up c =
    let d = c.disc-disc.result.range in
    let is = c.disc-disc.ensures in
    read_rounded _ _ _ _ _ _ d.some d.small d.near_y (record { sfits = c.nearest-y.type_inv }) is.up is.denominator
    (ap (λ (p : GridPoint). p.y) c.in-Some.ensures.value) c.nearest-y.ensures
