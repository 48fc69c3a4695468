-- Answers the goals of `box_between`.
use mir.Syntax.{w32}
use Rattle.std.proofs.Common.{◌≡◌, ℕ, ◌*◌, ℤ, pos, ◌*ℤ◌, to_z, of_z, ap₂, ◌∙◌, arith, rules, FitsSigned}
use Rattle.std.proofs.lemmas.Int.{ints, to_z-of_z}
use Rattle.integer_algebra.specs.Ranges.{IsUpTo}
use Rattle.plane_exact.specs.Heights.{IsFineCoordinate}
use Rattle.depth_rule.specs.Around.{IsAround, place_of}
use Rattle.depth_rule.proofs.Parts.{missed_is_spared, steep}
use Rattle.depth_rule.proofs.around.box_between.Goals as goal

-- a number as the code keeps it
abbrev kept : ℤ → ℤ
kept z = to_z w32 (of_z w32 z)

known : (r z : ℤ) → IsFineCoordinate r → r ≡ z → kept r ≡ z
known r z on is = let low = on.low in let high = on.high in omega (arith, ints)

plain : (r : ℤ) → IsUpTo (pos 41943040) r → kept r ≡ r
plain r on = let low = on.low in let high = on.high in omega (arith, ints)

-- the place that the code made of the coordinates u and v
made : (r u v f g k : ℤ) → IsUpTo (pos 41943040) r → r ≡ place_of (kept u) (kept v) k → IsFineCoordinate u → u ≡ f → IsFineCoordinate v → v ≡ g → kept r ≡ place_of f g k
made r u v f g k on is on_u u_is on_v v_is = plain r on ∙ is ∙ ap₂ (λ u v. place_of u v k) (known u f on_u u_is) (known v g on_v v_is)

-- the range that it made round two places
ranged : (a b f g low high : ℤ) (r : ℕ) → a ≡ f → b ≡ g → FitsSigned w32 low → FitsSigned w32 high → IsAround a b (pos (64 * r)) low high
    → IsAround f g (pos 64 *ℤ pos r) (kept low) (kept high)
ranged a b f g low high r a_is b_is low_fits high_fits around =
    let low_from = around.low_from in
    let low_to = around.low_to in
    let high_from = around.high_from in
    let high_to = around.high_to in
    let low_is = to_z-of_z w32 low low_fits in
    let high_is = to_z-of_z w32 high high_fits in
    record { low_from = omega (arith, ints); low_to = omega (arith, ints); high_from = omega (arith, ints); high_to = omega (arith, ints) }

pub returns-clause-spared : goal.returns-clause-spared
returns-clause-spared c =
    let mv = c.args.mv.now in
    let across = c.span_around-across.result in
    let up = c.span_around-up.result in
    let left : FitsSigned w32 across.low = search rules in
    let right : FitsSigned w32 across.high = search rules in
    let bottom : FitsSigned w32 up.low = search rules in
    let top : FitsSigned w32 up.high = search rules in
    missed_is_spared c.args.bit.now mv c.reach_of-reach.result c.args.first c.args.last c.reach_of-reach.ensures.value c.requires.order _
    (ranged _ _ _ _ across.low across.high c.reach_of-reach.result
    (made _ _ _ mv.from.at.x mv.to.at.x (pos c.args.first) c.place_of.ensures.range c.place_of.ensures.value c.across.ensures.range c.across.ensures.value c.across-2.ensures.range c.across-2.ensures.value)
    (made _ _ _ mv.from.at.x mv.to.at.x (pos c.args.last) c.place_of-2.ensures.range c.place_of-2.ensures.value c.across-3.ensures.range c.across-3.ensures.value c.across-4.ensures.range c.across-4.ensures.value)
    left right c.span_around-across.ensures)
    (ranged _ _ _ _ up.low up.high c.reach_of-reach.result
    (made _ _ _ mv.from.at.y mv.to.at.y (pos c.args.first) c.place_of-3.ensures.range c.place_of-3.ensures.value c.up.ensures.range c.up.ensures.value c.up-2.ensures.range c.up-2.ensures.value)
    (made _ _ _ mv.from.at.y mv.to.at.y (pos c.args.last) c.place_of-4.ensures.range c.place_of-4.ensures.value c.up-3.ensures.range c.up-3.ensures.value c.up-4.ensures.range c.up-4.ensures.value)
    bottom top c.span_around-up.ensures)

pub returns-clause-steep : goal.returns-clause-steep
returns-clause-steep c = λ deep. steep c.args.bit.now c.args.mv.now c.reach_of-reach.result (c.reach_of-reach.ensures.some deep) c.reach_of-reach.ensures.value
