-- Answers the goals of `snap`.
use Rattle.std.proofs.Common.{◌≢◌, ◌≤◌, All, length, refl, subst, sym}
use Rattle.loop_join.specs.Snap.{snap_of}
use Rattle.loop_join.proofs.Snaps.{snap_done, snap_of_apart, snap_of_few}
use Rattle.loop_join.proofs.snapped.snap.Goals as goal

pub loop-s-init : goal.loop-s-init
unfolding snap_of
loop-s-init c = record {
  rest = rw (c.new-moved.ensures.items, c.none-kept.ensures) refl;
  same = rw c.none-kept.ensures refl;
}

pub returns-clause-apart : goal.returns-clause-apart
returns-clause-apart c =
    subst (λ segs. All (λ s. s.a ≢ s.b) segs) (sym (snap_done c.args.tolerance c.loop-s.moved.items c.loop-s.kept.points c.args.segs.now c.loop-s.s-index c.loop-s-test.false c.loop-s.invariant.rest)) (snap_of_apart c.args.tolerance c.args.segs.now)

pub returns-clause-few : goal.returns-clause-few
returns-clause-few c =
    subst (λ segs. length segs ≤ length c.args.segs.now) (sym (snap_done c.args.tolerance c.loop-s.moved.items c.loop-s.kept.points c.args.segs.now c.loop-s.s-index c.loop-s-test.false c.loop-s.invariant.rest)) (snap_of_few c.args.tolerance c.args.segs.now)
