-- Answers the goals of `walk`.
use Rattle.std.proofs.Common.{◌≡◌, ◌≢◌, Some, sym, subst, ◌∙◌, arith}
use Rattle.std.specs.List.{find}
use Rattle.loop_join.specs.Ends.{has_end}
use Rattle.loop_join.specs.Walks.{IsLoopFrom}
use Rattle.loop_join.proofs.Degrees.{goes_on, walk_even}
use Rattle.loop_join.proofs.Joined.{length-without_first, loop_begun, loop_taken}
use Rattle.plane_exact.proofs.Differing.{same_point-false}
use Rattle.loop_join.proofs.Same.{same_point-true}
use Rattle.loop_join.proofs.joining.walk.Goals as goal

pub loop-first-init : goal.loop-first-init
loop-first-init c = rw (c.in_ok-push.ensures.items, c.new-points.ensures.items) (loop_begun c.args.first c.args.unused.now)

pub unreachable-requires : goal.unreachable-requires
unreachable-requires c =
    let p = c.loop-first.place in
    let start = c.args.first.a in
    let far : p ≢ start = same_point-false p start (sym c.is_same_point.ensures.value ∙ c.loop-first-test.true) in
    let next = goes_on start p c.loop-first.unused far (walk_even c.loop-first.invariant.walk c.requires) in
    c.in_default.not-Some next.0 (c.take_at.ensures.found ∙ next.1)

pub loop-first-preserved : goal.loop-first-preserved
loop-first-preserved c =
    let p = c.loop-first.place in
    let start = c.args.first.a in
    let unused = c.loop-first.unused in
    let far : p ≢ start = same_point-false p start (sym c.is_same_point.ensures.value ∙ c.loop-first-test.true) in
    let found : find (has_end p) unused ≡ Some c.in-Some.next = sym c.take_at.ensures.found ∙ c.in-Some.is in
    rw (c.other_end-place.ensures, c.take_at.ensures.left, c.in_ok-push-2.ensures.items) (loop_taken c.args.first c.args.unused.now c.loop-first.points.items p unused c.in-Some.next c.loop-first.invariant far found)

pub loop-first-smaller : goal.loop-first-smaller
loop-first-smaller c =
    let p = c.loop-first.place in
    let unused = c.loop-first.unused in
    let found : find (has_end p) unused ≡ Some c.in-Some.next = sym c.take_at.ensures.found ∙ c.in-Some.is in
    rw c.take_at.ensures.left (omega (arith, length-without_first p unused c.in-Some.next found))

pub returns : goal.returns
returns c =
    let p = c.loop-first.place in
    let back = same_point-true p c.args.first.a (sym c.is_same_point.ensures.value ∙ c.loop-first-test.false) in
    subst (λ q. IsLoopFrom c.args.first c.args.unused.now c.loop-first.points.items q c.loop-first.unused) back c.loop-first.invariant
