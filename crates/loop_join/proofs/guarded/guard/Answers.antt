-- Answers the goals of `guard`.
use Rattle.std.proofs.Common.{◌≡◌, inl, inr, subst, arith}
use Rattle.std.proofs.lemmas.Bool.{cases_lt}
use Rattle.std.proofs.lemmas.Option.{slice_get_within}
use Rattle.engrave_model.specs.Crossing.{IsCrossPair}
use Rattle.engrave_model.specs.Drawing.{edges_of}
use Rattle.loop_join.proofs.guarded.guard.Goals as goal

pub loop-i-preserved : goal.loop-i-preserved
loop-i-preserved c = λ k j below.
    elim (cases_lt k c.loop-i.i) [
      | inl before ↦ c.loop-i.invariant k j before
      | inr same ↦ subst (λ i. ¬ IsCrossPair (edges_of c.args.d.now) i j) (let is : c.loop-i.i ≡ k = omega arith in is) (c.in_default.ensures j)
    ]

pub returns : goal.returns
returns c = λ i j pair.
    let there = slice_get_within (edges_of c.args.d.now) i pair.first pair.is_first in
    let count = c.edges-i-end.ensures.count in
    c.loop-i.invariant i j (omega arith) pair
