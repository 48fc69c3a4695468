-- Answers the goals of `ends_of`.
use Rattle.std.proofs.Common.{◌≡◌, ◌++◌, ◌∷◌, [], ◌+◌, Some, ap, length, map, take, sym, subst, ◌∙◌, arith, length-take}
use Rattle.std.proofs.lemmas.List.{length-map, map_push, take_all, take_more}
use Rattle.plane_exact.specs.declared.point.Seg.{Seg}
use Rattle.loop_join.specs.Index.{AreIndexed}
use Rattle.loop_join.proofs.Indexed.{indexed_push}
use Rattle.loop_join.proofs.unused.ends_of.Goals as goal

pub loop-number-preserved : goal.loop-number-preserved
loop-number-preserved c =
    let segs = c.args.segs.now in
    let i = c.loop-number.number in
    let s = c.index-segs-number.result in
    let slots = map (λ (t : Seg). Some t) (take i segs) in
    let grown : take (i + 1) segs ≡ take i segs ++ s ∷ [] = take_more segs i s c.loop-number-test.true ∙ ap (λ (t : Seg). take i segs ++ t ∷ []) (sym c.index-segs-number.is) in
    let pushed : map (λ (t : Seg). Some t) (take (i + 1) segs) ≡ slots ++ Some s ∷ [] = ap (λ ss. map (λ (t : Seg). Some t) ss) grown ∙ map_push (λ (t : Seg). Some t) (take i segs) s in
    let counted : i ≡ length slots = omega (arith, length-map (take i segs) (λ (t : Seg). Some t), length-take i segs, c.loop-number-test.true) in
    subst (λ more. AreIndexed more c.insert-in-loop-number.new.self) (sym pushed)
    (indexed_push slots s i c.loop-number.ends c.insert.new.self c.insert-in-loop-number.new.self c.loop-number.invariant counted
    (rw c.end_at.ensures at c.in_ok-insert.ensures.updates)
    (rw c.end_at-in-loop-number.ensures at c.in_ok-insert-2.ensures.updates))

pub returns : goal.returns
returns c = subst (λ all. AreIndexed (map (λ (t : Seg). Some t) all) c.loop-number.ends) (take_all c.loop-number.number c.args.segs.now c.loop-number-test.false) c.loop-number.invariant
