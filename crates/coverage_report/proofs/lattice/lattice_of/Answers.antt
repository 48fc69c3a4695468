-- Answers the goals of `lattice_of`.
use mir.Syntax.{w32}
use Rattle.std.specs.Prelude.{MatchOption}
use Rattle.std.proofs.Common.{◌≡◌, ◌≤ℤ◌, subst, sym}
use Rattle.plane_exact.specs.Plane.{GridPoint}
use Rattle.plane_exact.proofs.Stored.{narrow, read_is}
use Rattle.depth_rule.proofs.Multiples.{ticks_read}
use Rattle.coverage_report.specs.Lattices.{IsBoxPoint, IsLatticeIn}
use Rattle.coverage_report.proofs.Lattices.{lattice_in, lattice_is}
use Rattle.coverage_report.proofs.lattice.lattice_of.Goals as goal

pub returns-in_err-up : goal.returns-in_err-up
returns-in_err-up c =
    let low = c.args.bounds.low in
    let high = c.args.bounds.high in
    let bottom : narrow c.y.result ≡ low.y = read_is w32 _ _ (record { sfits = c.y.type_inv }) c.y.ensures.value in
    let top : narrow c.y-2.result ≡ high.y = read_is w32 _ _ (record { sfits = c.y-2.type_inv }) c.y-2.ensures.value in
    subst (λ o. MatchOption o ((p : GridPoint) → ¬ IsBoxPoint low high c.args.pitch p) (λ lattice. IsLatticeIn low high c.args.pitch lattice))
    (sym c.from_residual-in_err-up.ensures)
    (λ p of.
    let within = of.within.up in
    c.in_err-up.ensures p.y of.up (subst (λ z. z ≤ℤ p.y) (sym bottom) within.low) (subst (λ z. p.y ≤ℤ z) (sym top) within.high))

pub invariant_of-result : goal.invariant_of-result
invariant_of-result c =
    let low = c.args.bounds.low in
    let high = c.args.bounds.high in
    let low_on = c.x.ensures.range in
    let high_on = c.x-2.ensures.range in
    lattice_is low high _ c.requires.low
    (ticks_read low.x high.x c.x.result c.x-2.result _ _ _ low_on.across high_on.across c.x.ensures.value c.x-2.ensures.value c.in_ok-across.ensures)
    (ticks_read low.y high.y c.y.result c.y-2.result _ _ _ low_on.up high_on.up c.y.ensures.value c.y-2.ensures.value c.in_ok-up.ensures) low_on high_on

pub returns : goal.returns
returns c =
    let low = c.args.bounds.low in
    let high = c.args.bounds.high in
    let low_on = c.x.ensures.range in
    let high_on = c.x-2.ensures.range in
    lattice_in low high _ c.requires.low
    (ticks_read low.x high.x c.x.result c.x-2.result _ _ _ low_on.across high_on.across c.x.ensures.value c.x-2.ensures.value c.in_ok-across.ensures)
    (ticks_read low.y high.y c.y.result c.y-2.result _ _ _ low_on.up high_on.up c.y.ensures.value c.y-2.ensures.value c.in_ok-up.ensures)
