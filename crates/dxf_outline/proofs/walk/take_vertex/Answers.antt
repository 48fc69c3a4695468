-- Answers the goals of `take_vertex`.
use Rattle.std.proofs.Common.{refl}
use Rattle.std.proofs.lemmas.Result.{err_from_is_err_and}
use Rattle.dxf_outline.specs.Outline.{followed}
use Rattle.dxf_outline.proofs.walk.take_vertex.Goals as goal

pub returns-in_err-slots-clause-fault : goal.returns-in_err-slots-clause-fault
unfolding followed
returns-in_err-slots-clause-fault c =
    let p = err_from_is_err_and c.from_residual.result c.from_residual.ensures.1 in
    rw (p.1, p.2) (λ kind. rw c.in_err-slots.ensures.fault refl)

pub returns-clause-goes : goal.returns-clause-goes
unfolding followed
returns-clause-goes c = rw (c.in_ok-slots.ensures.slots, c.in_ok-push.ensures.items, c.judge_vertex.ensures) refl
