-- Answers the goals of `odd_points`.
use Rattle.std.proofs.Common.{◌≡◌, ◌++◌, ◌∷◌, [], ◌+◌, ap, take, sym, ◌∙◌}
use Rattle.std.proofs.lemmas.List.{take_all, take_more}
use Rattle.plane_exact.specs.declared.point.Seg.{Seg}
use Rattle.loop_join.specs.Ends.{is_odd}
use Rattle.loop_join.proofs.Flips.{odd_more}
use Rattle.loop_join.proofs.odd.odd_points.Goals as goal

pub loop-seg-preserved : goal.loop-seg-preserved
loop-seg-preserved c p =
    let segs = c.args.segs.now in
    let i = c.loop-seg.seg-index in
    let s = c.seg-item.result in
    let grown : take (i + 1) segs ≡ take i segs ++ s ∷ [] = take_more segs i s c.loop-seg-test.true ∙ ap (λ (t : Seg). take i segs ++ t ∷ []) (sym c.seg-item.is) in
    odd_more (take i segs) s c.loop-seg.odd c.flip.new.points c.flip-in-loop-seg.new.points c.loop-seg.invariant c.in_ok-flip.ensures c.in_ok-flip-2.ensures p ∙ ap (λ more. is_odd more p) (sym grown)

pub returns : goal.returns
returns c p = c.loop-seg.invariant p ∙ ap (λ all. is_odd all p) (take_all c.loop-seg.seg-index c.args.segs.now c.loop-seg-test.false)
