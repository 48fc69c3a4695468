-- Answers the goals of `Scene::first_crossing`.
use Rattle.std.proofs.Common.{◌≡◌, inl, inr, ap, length, subst, arith, ◌∙◌}
use Rattle.std.proofs.lemmas.Bool.{cases_lt}
use Rattle.std.proofs.lemmas.Option.{slice_get_within}
use Rattle.engrave_model.specs.Crossing.{IsCrossPair}
use Rattle.engrave_model.specs.Drawing.{edges_of}
use Rattle.depth_rule.proofs.scene.Scene.first_crossing.Goals as goal

pub loop-i-preserved-then-end-i : goal.loop-i-preserved-then-end-i
loop-i-preserved-then-end-i c = λ k j below.
    elim (cases_lt k c.loop-i.i) [
      | inl before ↦ c.loop-i.invariant k j before
      | inr same ↦ subst (λ i. ¬ IsCrossPair (edges_of c.args.self.now) i j) (let is : c.loop-i.i ≡ k = omega arith in is) (c.in_default.ensures j)
    ]

pub loop-i-preserved : goal.loop-i-preserved
loop-i-preserved c = λ k j below.
    elim (cases_lt k c.loop-i.i) [
      | inl before ↦ c.loop-i.invariant k j before
      | inr from ↦ c.clear_end-end.ensures.clear k j (omega arith) below
    ]

pub returns-in-Some : goal.returns-in-Some
returns-in-Some c = record { pair = c.in-Some.ensures.pair; rows_clear = λ k l below. c.loop-i.invariant k l below; row_clear = c.in-Some.ensures.before }

pub returns : goal.returns
returns c = λ i j pair.
    let there = slice_get_within (edges_of c.args.self.now) i pair.first pair.is_first in
    let count = c.edges-count.ensures.count ∙ ap (λ loops. length (edges_of loops)) c.drawing.ensures in
    c.loop-i.invariant i j (omega arith) pair
