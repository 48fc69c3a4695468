-- Answers the goals of `open_point`.
use Rattle.std.proofs.Common.{◌≡◌, true, false, sym, ◌∙◌}
use Rattle.std.specs.List.{find}
use Rattle.std.proofs.lemmas.List.{at_drop_all}
use Rattle.loop_join.specs.Ends.{ends_of, is_odd}
use Rattle.loop_join.proofs.Opens.{first_from, open_point-is}
use Rattle.loop_join.proofs.odd.open_point.Goals as goal

pub loop-seg-init : goal.loop-seg-init
loop-seg-init c = sym (open_point-is c.args.segs.now)

pub returns-then-is_among : goal.returns-then-is_among
returns-then-is_among c =
    let s = c.seg-item.result in
    let odd : is_odd c.args.segs.now s.a ≡ true = sym (c.in_ok-odd.ensures s.a) ∙ sym c.is_among.ensures ∙ c.if-is_among.true in
    let next = first_from c.args.segs.now c.loop-seg.seg-index s c.loop-seg-test.true c.seg-item.is in
    sym (rw odd at next) ∙ c.loop-seg.invariant

pub returns-then-is_among-2 : goal.returns-then-is_among-2
returns-then-is_among-2 c =
    let s = c.seg-item.result in
    let even : is_odd c.args.segs.now s.a ≡ false = sym (c.in_ok-odd.ensures s.a) ∙ sym c.is_among.ensures ∙ c.if-is_among.false in
    let odd : is_odd c.args.segs.now s.b ≡ true = sym (c.in_ok-odd.ensures s.b) ∙ sym c.is_among-in-loop-seg.ensures ∙ c.if-is_among-2.true in
    let next = first_from c.args.segs.now c.loop-seg.seg-index s c.loop-seg-test.true c.seg-item.is in
    sym (rw (even, odd) at next) ∙ c.loop-seg.invariant

pub loop-seg-preserved : goal.loop-seg-preserved
loop-seg-preserved c =
    let s = c.seg-item.result in
    let first : is_odd c.args.segs.now s.a ≡ false = sym (c.in_ok-odd.ensures s.a) ∙ sym c.is_among.ensures ∙ c.if-is_among.false in
    let second : is_odd c.args.segs.now s.b ≡ false = sym (c.in_ok-odd.ensures s.b) ∙ sym c.is_among-in-loop-seg.ensures ∙ c.if-is_among-2.false in
    let next = first_from c.args.segs.now c.loop-seg.seg-index s c.loop-seg-test.true c.seg-item.is in
    sym (rw (first, second) at next) ∙ c.loop-seg.invariant

pub returns : goal.returns
returns c =
    sym (at_drop_all (λ ss. find (is_odd c.args.segs.now) (ends_of ss)) c.args.segs.now c.loop-seg.seg-index c.loop-seg-test.false) ∙ c.loop-seg.invariant
