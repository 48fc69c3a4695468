-- Answers the goals of `turned`.
use Rattle.std.proofs.Common.{◌≡◌, lit<, ℤ, arith, ap}
use Rattle.std.proofs.lemmas.Int.{ints}
use Rattle.tangent_disc.proofs.touch.turned.Goals as goal
use Rattle.tangent_disc.proofs.touch.turned.Goals.{in-Left, in-Right, in-Nowhere}

first : {p q : ℤ × (ℤ × Unit {0})} → p ≡ q → p.0 ≡ q.0
first e = ap (λ (r : ℤ × (ℤ × Unit {0})). r.0) e

second : {p q : ℤ × (ℤ × Unit {0})} → p ≡ q → p.1.0 ≡ q.1.0
second e = ap (λ (r : ℤ × (ℤ × Unit {0})). r.1.0) e

pub invariant_of-result : goal.invariant_of-result
invariant_of-result c =
    let across = c.offset_from-along.result.across in
    let x_low = across.low in
    let x_high = across.high in
    let up = c.offset_from-along.result.up in
    let y_low = up.low in
    let y_high = up.high in
    elim c.match-side.branch [
      | in-Left w ↦ let x = first w.result-is in let y = second w.result-is in record { most = lit< tt; across = record { low = omega (arith, ints); high = omega (arith, ints) }; up = record { low = omega (arith, ints); high = omega (arith, ints) } }
      | in-Right w ↦ let x = first w.result-is in let y = second w.result-is in record { most = lit< tt; across = record { low = omega (arith, ints); high = omega (arith, ints) }; up = record { low = omega (arith, ints); high = omega (arith, ints) } }
      | in-Nowhere w ↦ let x = first w.result-is in let y = second w.result-is in record { most = lit< tt; across = record { low = omega (arith, ints); high = omega (arith, ints) }; up = record { low = omega (arith, ints); high = omega (arith, ints) } }
    ]
