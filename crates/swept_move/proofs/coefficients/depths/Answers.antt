-- Answers the goals of `depths`.
use Rattle.std.proofs.Common.{arith}
use Rattle.std.proofs.lemmas.Int.{ints}
use Rattle.swept_move.proofs.Products.{depths_is}
use Rattle.swept_move.proofs.Widths.{range}
use Rattle.swept_move.proofs.coefficients.depths.Goals as goal

pub returns-clause-value : goal.returns-clause-value
returns-clause-value c = (depths_is c.requires.a c.requires.b).value

pub returns-clause-range : goal.returns-clause-range
returns-clause-range c =
    let within = range (depths_is c.requires.a c.requires.b) in
    let low = within.low in
    let high = within.high in
    record { low = omega (arith, ints); high = omega (arith, ints) }
