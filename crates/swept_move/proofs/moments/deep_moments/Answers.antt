-- Answers the goals of `deep_moments`.
use mir.Syntax.{w64}
use Rattle.std.proofs.Common.{◌≡◌, ℤ, pos, ◌-ℤ◌, ap, arith}
use Rattle.std.proofs.lemmas.Int.{ints}
use Rattle.swept_move.proofs.Widths.{held}
use Rattle.swept_move.proofs.moments.deep_moments.Goals as goal
use Rattle.swept_move.proofs.moments.deep_moments.Goals.{then-h-gt0, else-h-gt0+then-k-gt0, else-h-gt0+else-k-gt0}

pub invariant_of-result : goal.invariant_of-result
invariant_of-result c =
    let r : ℤ × (ℤ × (ℤ × Unit {0})) = c.if-h-gt0.result in
    elim c.if-h-gt0.branch [
      | then-h-gt0 w ↦
          (let first : r.0 ≡ held w64 c.args.h = ap (λ (t : ℤ × (ℤ × (ℤ × Unit {0}))). t.0) w.result-is in
          let last : r.1.0 ≡ held w64 (held w64 c.args.h -ℤ held w64 c.args.k) = ap (λ (t : ℤ × (ℤ × (ℤ × Unit {0}))). t.1.0) w.result-is in
          let over : r.1.1.0 ≡ held w64 (held w64 c.args.h -ℤ held w64 c.args.k) = ap (λ (t : ℤ × (ℤ × (ℤ × Unit {0}))). t.1.1.0) w.result-is in
          record { least = omega (arith, ints); long = omega (arith, ints); most = omega (arith, ints); range = omega (arith, ints) })
      | else-h-gt0+then-k-gt0 w ↦
          (let first : r.0 ≡ pos 0 = ap (λ (t : ℤ × (ℤ × (ℤ × Unit {0}))). t.0) w.result-is in
          let last : r.1.0 ≡ held w64 (pos 0 -ℤ held w64 c.args.h) = ap (λ (t : ℤ × (ℤ × (ℤ × Unit {0}))). t.1.0) w.result-is in
          let over : r.1.1.0 ≡ held w64 (held w64 c.args.k -ℤ held w64 c.args.h) = ap (λ (t : ℤ × (ℤ × (ℤ × Unit {0}))). t.1.1.0) w.result-is in
          record { least = omega (arith, ints); long = omega (arith, ints); most = omega (arith, ints); range = omega (arith, ints) })
      | else-h-gt0+else-k-gt0 w ↦
          (let first : r.0 ≡ pos 0 = ap (λ (t : ℤ × (ℤ × (ℤ × Unit {0}))). t.0) w.result-is in
          let last : r.1.0 ≡ pos 1 = ap (λ (t : ℤ × (ℤ × (ℤ × Unit {0}))). t.1.0) w.result-is in
          let over : r.1.1.0 ≡ pos 1 = ap (λ (t : ℤ × (ℤ × (ℤ × Unit {0}))). t.1.1.0) w.result-is in
          record { least = omega (arith, ints); long = omega (arith, ints); most = omega (arith, ints); range = omega (arith, ints) })
    ]
