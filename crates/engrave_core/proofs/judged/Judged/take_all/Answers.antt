-- Answers the goals of `Judged::take_all`.
use Rattle.std.proofs.Common.{◌≡◌, ◌-◌, length, take, drop, subst, arith, ap, ◌∙◌}
use Rattle.std.proofs.lemmas.List.{length-drop, take_rest}
use Rattle.engrave_model.specs.Drawing.{edges_of}
use Rattle.engrave_core.specs.Judging.{IsJudgedTo}
use Rattle.engrave_core.proofs.JudgedCode.{taken_more}
use Rattle.engrave_core.proofs.judged.Judged.take_all.Goals as goal

pub loop-at-preserved : goal.loop-at-preserved
loop-at-preserved c =
    let piece = c.args.piece.now in
    let at = c.loop-at.at in
    let before = c.loop-at.invariant in
    let taken = c.take_some-at.ensures in
    let new = c.take_some-at.new.self in
    let left : length (take (length piece - at) (drop at piece)) ≡ length piece - at = ap length (take_rest piece at) ∙ length-drop at piece in
    record {
      within = omega (arith, left, taken.within, before.within);
      units = taken.units ∙ before.units;
      fed = omega (arith, taken.fed, before.fed);
      judged = λ bytes judged.
          subst (λ fed. IsJudgedTo (edges_of c.args.scene.now) c.args.bit.now fed new.stepper new.verdict new.count) (taken_more bytes piece at c.take_some-at.result)
          (taken.judged _ (before.judged bytes judged));
    }
