-- Answers the goals of `place_of`.
use mir.Syntax.{w32}
use Rattle.std.proofs.Common.{◌≡◌, ℕ, ◌-◌, ◌≤◌, ℤ, pos, ◌+ℤ◌, ◌-ℤ◌, ◌*ℤ◌, to_z, of_z, arith, ap, ap₂, subst, sym, ◌∙◌}
use Rattle.std.proofs.lemmas.Int.{ints}
use Rattle.integer_algebra.specs.Ranges.{IsUpTo}
use Rattle.plane_exact.specs.Heights.{IsFineCoordinate}
use Rattle.depth_rule.proofs.around.place_of.Goals as goal

-- a number as the code keeps it
abbrev kept : ℤ → ℤ
kept z = to_z w32 (of_z w32 z)

fine : (z : ℤ) → IsFineCoordinate z → kept z ≡ z
fine z on = let low = on.low in let high = on.high in omega (arith, ints)

left : (k : ℕ) → k ≤ 64 → pos (64 - k) ≡ pos 64 -ℤ pos k
left k few = omega (arith, ints)

sum : (a b : ℤ) → IsUpTo (pos 20971520) a → IsUpTo (pos 20971520) b → kept (kept a +ℤ kept b) ≡ a +ℤ b
sum a b on_a on_b =
    let low = on_a.low in
    let high = on_a.high in
    let low' = on_b.low in
    let high' = on_b.high in
    omega (arith, ints)

pub returns-clause-value : goal.returns-clause-value
returns-clause-value c =
    sum c.times.result c.times-2.result c.times.ensures.range c.times-2.ensures.range
    ∙ ap₂ (λ a b. a +ℤ b)
    (c.times.ensures.value ∙ ap₂ (λ k z. k *ℤ z) (left c.args.k c.requires.k) (fine c.args.from c.requires.from))
    (c.times-2.ensures.value ∙ ap (λ z. pos c.args.k *ℤ z) (fine c.args.to c.requires.to))

pub returns-clause-range : goal.returns-clause-range
returns-clause-range c =
    let on = c.times.ensures.range in
    let on' = c.times-2.ensures.range in
    let low = on.low in
    let high = on.high in
    let low' = on'.low in
    let high' = on'.high in
    let is = sum c.times.result c.times-2.result on on' in
    subst (IsUpTo (pos 41943040)) (sym is) (record { low = omega (arith, ints); high = omega (arith, ints) })
