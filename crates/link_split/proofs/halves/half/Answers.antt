-- Answers the goals of `half`.
use Rattle.std.proofs.Common.{arith, ◌≡◌, ◌+ℤ◌}
use Rattle.std.proofs.lemmas.Int.{ints}
use Rattle.link_split.proofs.Halfway.{stored_half}
use Rattle.plane_exact.proofs.Stored.{wide}
use Rattle.link_split.proofs.halves.half.Goals as goal

pub returns-clause-value : goal.returns-clause-value
returns-clause-value c =
    let least_a = c.requires.first.low in
    let most_a = c.requires.first.high in
    let least_b = c.requires.second.low in
    let most_b = c.requires.second.high in
    let sum : wide c.from.result ≡ c.args.a +ℤ c.args.b = omega (arith, ints) in
    stored_half c.args.a c.args.b (wide c.from.result) c.div_euclid.result c.requires.first c.requires.second sum c.div_euclid.ensures
