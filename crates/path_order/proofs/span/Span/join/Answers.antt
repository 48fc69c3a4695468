-- Answers the goals of `Span::join`.
use Rattle.std.proofs.Common.{arith}
use Rattle.std.proofs.lemmas.Int.{ints, clamps}
use Rattle.path_order.proofs.Gaps.{most_high}
use Rattle.path_order.proofs.span.Span.join.Goals as goal

pub invariant_of-result-clause-low_in : goal.invariant_of-result-clause-low_in
invariant_of-result-clause-low_in c =
    let a = c.args.self.low_in in
    let b = c.args.other.low_in in
    record { low = omega (arith, ints, clamps); high = omega (arith, ints, clamps) }

pub invariant_of-result-clause-high_in : goal.invariant_of-result-clause-high_in
invariant_of-result-clause-high_in c = most_high c.args.self.high c.args.other.high c.max.result c.args.self.high_in c.args.other.high_in c.max.ensures.value

pub returns-clause-least : goal.returns-clause-least
returns-clause-least c = λ s first second.
    record { low = omega (arith, ints, clamps); high = omega (arith, ints, clamps) }
