-- Answers the goals of `bulges_to_halve`.
use Rattle.std.proofs.Common.{ℤ, pos, List, [], ◌++◌, ◌+◌, ◌≡◌, arith, ap, ◌∙◌, sym}
use Rattle.std.proofs.lemmas.Int.{ints}
use Rattle.std.proofs.lemmas.List.{append-nil}
use Rattle.integer_algebra.specs.Ranges.{IsUpTo}
use Rattle.plane_exact.proofs.Stored.{wide}
use Rattle.arc_flatten.specs.Halves.{halved_bulges}
use Rattle.arc_flatten.proofs.Steps.{bulge_more, halved_flat, halved_none}
use Rattle.arc_flatten.proofs.halving.bulges_to_halve.Goals as goal

-- where none are left
all_of : (way : ℤ × ℤ) (b : ℤ) (bulges left : List ℤ) → IsUpTo (pos 10737418240000) b → bulges ++ left ≡ halved_bulges 10 way (wide b) → left ≡ [] → bulges ≡ halved_bulges 10 way b
all_of way b bulges left on so_far none =
    let low = on.low in
    let high = on.high in
    let read : wide b ≡ b = omega (arith, ints) in
    sym (append-nil bulges) ∙ ap (λ more. bulges ++ more) (sym none) ∙ so_far ∙ ap (halved_bulges 10 way) read

pub loop-init : goal.loop-init
loop-init c =
    let low = c.requires.bulge.low in
    let high = c.requires.bulge.high in
    record {
      same = ap (λ (bulges : List ℤ). bulges ++ halved_bulges 10 c.args.way (wide c.args.b)) c.new-bulges.ensures.items;
      many = c.new-bulges.ensures.len;
      range = record { low = omega (arith, ints); high = omega (arith, ints) };
    }

pub loop-preserved : goal.loop-preserved
loop-preserved c =
    let low = c.half_bulge-half.ensures.small.low in
    let high = c.half_bulge-half.ensures.small.high in
    let next : wide c.half_bulge-half.result ≡ c.half_bulge-half.result = omega (arith, ints) in
    record {
      same = bulge_more c.args.way c.loop.counter _ (wide c.half_bulge-half.result) c.loop.bulges.items c.push.new.self.items _ c.loop-test.true (sym c.is_flat_along.ensures ∙ c.if-is_flat_along.false)
          c.loop.invariant.same c.in_ok-push.ensures.items (next ∙ c.half_bulge-half.ensures.value);
      many = c.in_ok-push.ensures.len ∙ ap (λ n. n + 1) c.loop.invariant.many;
      range = record { low = omega (arith, ints); high = omega (arith, ints) };
    }

pub returns-clause-bulges : goal.returns-clause-bulges
returns-clause-bulges c =
    all_of c.args.way c.args.b c.loop.bulges.items _ c.requires.bulge c.loop.invariant.same (halved_none c.args.way _ _ (omega arith))

pub returns-then-is_flat_along-clause-bulges : goal.returns-then-is_flat_along-clause-bulges
returns-then-is_flat_along-clause-bulges c =
    all_of c.args.way c.args.b c.loop.bulges.items _ c.requires.bulge c.loop.invariant.same (halved_flat c.args.way _ _ (sym c.is_flat_along.ensures ∙ c.if-is_flat_along.true))
