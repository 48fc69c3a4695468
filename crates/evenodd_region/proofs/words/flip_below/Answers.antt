-- Answers the goals of `flip_below`.
use Rattle.std.proofs.Common.{◌≡◌, ◌*◌, ◌+◌, ◌/◌, refl, arith, subst}
use Rattle.evenodd_region.specs.RowBits.{IsFlipped}
use Rattle.evenodd_region.proofs.BitRuns.{all_below, flipped_next}
use Rattle.evenodd_region.proofs.words.flip_below.Goals as goal

pub loop-word-preserved : goal.loop-word-preserved
loop-word-preserved c =
    let w = c.loop-word.word in
    flipped_next c.args.bits.now c.loop-word.bits w _ (64 * w) (64 * (w + 1)) (omega arith) refl (omega arith) (omega arith) (all_below (64 * (w + 1)) w (omega arith)) c.loop-word.invariant

pub returns-then-end-ne0 : goal.returns-then-end-ne0
returns-then-end-ne0 c =
    let w = c.args.end / 64 in
    let is : c.loop-word.word ≡ w = omega arith in
    flipped_next c.args.bits.now c.loop-word.bits w _ (64 * w) c.args.end (omega arith) refl (omega arith) (omega arith) c.ones_below.ensures
    (subst (λ n. IsFlipped (64 * n) c.args.bits.now c.loop-word.bits) is c.loop-word.invariant)
