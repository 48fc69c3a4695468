-- Answers the goals of `first_from`.
use Rattle.std.specs.Int.{int_rem_euclid}
use Rattle.std.proofs.Common.{arith, ap₂, ◌∙◌}
use Rattle.std.proofs.lemmas.Int.{ints}
use Rattle.depth_rule.proofs.Multiples.{first_multiple}
use Rattle.depth_rule.proofs.ticks.first_from.Goals as goal

pub returns-clause-multiple : goal.returns-clause-multiple
returns-clause-multiple c =
    let on = c.requires.low in
    let low = on.low in
    let high = on.high in
    first_multiple c.args.low c.args.pitch on c.requires.pitch.low c.rem_euclid.result _
    (c.rem_euclid.ensures.value ∙ ap₂ int_rem_euclid (omega (arith, ints)) (omega (arith, ints))) (omega (arith, ints))
