-- Answers the goals of `direction`.
use mir.Syntax.{w64}
use Rattle.std.proofs.Common.{◌≡◌, ◌/◌, pos, to_z, arith, ap, ap₂, ◌∙◌}
use Rattle.std.proofs.lemmas.Int.{ints}
use Rattle.arc_flatten.specs.Directions.{Heading, direction_of, quarter_turned}
use Rattle.arc_flatten.proofs.quarter.direction.Goals as goal

pub returns-clause-value : goal.returns-clause-value
unfolding direction_of
returns-clause-value c =
    let is = c.heading.view_is ∙ c.first_quarter-heading.ensures in
    let x : to_z w64 c.heading.inside.x ≡ pos c.heading.inside.x = let small = c.heading.invariant.across in omega (arith, ints) in
    let y : to_z w64 c.heading.inside.y ≡ pos c.heading.inside.y = let small = c.heading.invariant.up in omega (arith, ints) in
    c.turned.ensures.value ∙ ap₂ (quarter_turned (c.args.u / 1048576)) (x ∙ ap (λ (h : Heading). pos h.x) is) (y ∙ ap (λ (h : Heading). pos h.y) is)
