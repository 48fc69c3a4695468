-- Answers the goals of `join`.
use Rattle.std.proofs.Common.{◌≡◌, None, Option, Some, [], ◌∷◌, ◌++◌, ap, length, sym, subst, ◌∙◌, arith}
use Rattle.std.proofs.lemmas.Bool.{both_ways}
use Rattle.loops_text.specs.Edges.{push_fault}
use Rattle.loop_join.specs.Even.{IsEven}
use Rattle.loop_join.specs.Walks.{AreLoops, none_yet}
use Rattle.loop_join.proofs.Counted.{each_once}
use Rattle.loop_join.proofs.Degrees.{even_begun, loops_even}
use Rattle.loop_join.proofs.Drawn.{push_none}
use Rattle.loop_join.proofs.Joined.{loop_closed, walk_fewer}
use Rattle.loop_join.proofs.Opens.{even_from_none}
use Rattle.loop_join.proofs.Results.{join_of-Ok, join_of-open}
use Rattle.loop_join.proofs.joining.join.Goals as goal
use Rattle.loop_join.proofs.joining.join.Goals.{After-take_first, in-Memory, in_default-matches}

no_fault : {A : Type 0} (fault : Option A) (f : A) → fault ≡ None → fault ≡ Some f → ⊥
no_fault fault f none some = cc

pub returns-in-Some-clause-fault : goal.returns-in-Some-clause-fault
returns-in-Some-clause-fault c fault = join_of-open c.args.segs.now c.in-Some.point (sym c.in_ok-point.ensures ∙ c.in-Some.is)

pub loop-first-init : goal.loop-first-init
loop-first-init c = rw (c.empty-drawing.ensures, c.in_ok-unused.ensures) none_yet

pub walk-requires : goal.walk-requires
walk-requires c =
    let segs = c.args.segs.now in
    let even = even_from_none segs (sym c.in_ok-point.ensures ∙ c.in_default.is) in
    let left = loops_even c.loop-first.invariant even in
    even_begun c.in-Some-take_first.first c.take_first.new.self (subst IsEven c.in-Some-take_first.ensures left)

pub prove-unreachable-requires : goal.prove-unreachable-requires
prove-unreachable-requires c =
    let segs = c.args.segs.now in
    let are = subst (AreLoops segs c.loop-first.drawing) c.in-Some-take_first.ensures c.loop-first.invariant in
    let none : push_fault c.loop-first.drawing c.deref.result.now ≡ None = ap (push_fault c.loop-first.drawing) c.deref.ensures.value ∙ push_none are c.in_ok-points.ensures c.requires.apart c.requires.few in
    elim c.match-matches.branch [
      | in-Memory w ↦ both_ways c.match-matches.matches c.if-prove.true w.matches-is
      | in_default-matches w ↦ no_fault (push_fault c.loop-first.drawing c.deref.result.now) c.in-Err.fault none (c.in-Err.ensures.fault w.in_default-matches.not-Memory)
    ]

pub loop-first-preserved : goal.loop-first-preserved
loop-first-preserved c =
    let segs = c.args.segs.now in
    let pushed = c.in_default-push_loop.ensures.ok ∙ ap (λ points. c.loop-first.drawing ++ points ∷ []) c.deref.ensures.value in
    rw pushed (loop_closed segs c.loop-first.drawing c.loop-first.unused c.in-Some-take_first.first c.take_first.new.self c.walk.new.unused c.in_ok-points.points.items c.loop-first.invariant c.in-Some-take_first.ensures c.in_ok-points.ensures)

pub loop-first-smaller : goal.loop-first-smaller
loop-first-smaller c = omega (arith, ap length c.in-Some-take_first.ensures, walk_fewer c.in_ok-points.ensures.walk)

pub returns-clause-value : goal.returns-clause-value
returns-clause-value c = join_of-Ok c.args.segs.now c.loop-first.drawing (subst (AreLoops c.args.segs.now c.loop-first.drawing) c.in_default-take_first.ensures c.loop-first.invariant)

pub returns-clause-rule : goal.returns-clause-rule
returns-clause-rule c = subst (AreLoops c.args.segs.now c.loop-first.drawing) c.in_default-take_first.ensures c.loop-first.invariant

pub returns-clause-each_once : goal.returns-clause-each_once
returns-clause-each_once c = each_once (subst (AreLoops c.args.segs.now c.loop-first.drawing) c.in_default-take_first.ensures c.loop-first.invariant)
