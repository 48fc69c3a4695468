-- Answers the goals of `turned`.
use mir.Syntax.{w64}
use Rattle.std.proofs.Common.{◌≡◌, ◌+◌, ◌-◌, pos, ◌-ℤ◌, arith, ap, ap₂, ◌∙◌}
use Rattle.std.proofs.lemmas.Int.{ints, to_z-of_z}
use Rattle.plane_exact.proofs.Stored.{wide}
use Rattle.arc_flatten.specs.Directions.{quarter_turned}
use Rattle.arc_flatten.proofs.Steps.{quarter_more, quarter_end}
use Rattle.arc_flatten.proofs.quarter.turned.Goals as goal

pub overflow_sub-way : goal.overflow_sub-way
overflow_sub-way c =
    let low = c.loop.invariant.up.low in
    let high = c.loop.invariant.up.high in
    omega (arith, ints)

pub loop-init : goal.loop-init
loop-init c =
    let x_low = c.requires.x.low in
    let x_high = c.requires.x.high in
    let y_low = c.requires.y.low in
    let y_high = c.requires.y.high in
    record {
      same = let all : c.args.quarters - 0 ≡ c.args.quarters = omega arith in ap (λ n. quarter_turned n (wide c.args.x) (wide c.args.y)) all;
      across = record { low = omega (arith, ints); high = omega (arith, ints) };
      up = record { low = omega (arith, ints); high = omega (arith, ints) };
    }

pub loop-preserved : goal.loop-preserved
loop-preserved c =
    let x_low = c.loop.invariant.across.low in
    let x_high = c.loop.invariant.across.high in
    let y_low = c.loop.invariant.up.low in
    let y_high = c.loop.invariant.up.high in
    record {
      same = quarter_more (c.args.quarters - c.loop.counter) (c.args.quarters - (c.loop.counter + 1)) c.loop.way.0 c.loop.way.1 (wide (pos 0 -ℤ wide c.loop.way.1)) (wide c.loop.way.0) (omega arith) (omega (arith, ints)) (omega (arith, ints)) ∙ c.loop.invariant.same;
      across = record { low = omega (arith, ints); high = omega (arith, ints) };
      up = record { low = omega (arith, ints); high = omega (arith, ints) };
    }

pub returns-clause-value : goal.returns-clause-value
returns-clause-value c =
    quarter_end (c.args.quarters - c.loop.counter) c.loop.way.0 c.loop.way.1 (omega arith) ∙ c.loop.invariant.same
    ∙ ap₂ (quarter_turned c.args.quarters) (to_z-of_z w64 c.args.x c.ranges.x) (to_z-of_z w64 c.args.y c.ranges.y)
