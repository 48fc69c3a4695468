-- Answers the goals of `begin_polyline`.
use Rattle.std.proofs.Common.{refl}
use Rattle.std.proofs.lemmas.Result.{err_from_is_err_and}
use Rattle.dxf_outline.specs.Outline.{entered}
use Rattle.dxf_outline.proofs.entities.begin_polyline.Goals as goal

pub returns-in_err-slots-clause-fault : goal.returns-in_err-slots-clause-fault
unfolding entered
returns-in_err-slots-clause-fault c =
    let p = err_from_is_err_and c.from_residual.result c.from_residual.ensures.1 in
    rw (p.1, p.2) (λ kind. rw c.in_err-slots.ensures.fault refl)

pub returns-clause-goes : goal.returns-clause-goes
unfolding entered
returns-clause-goes c = rw (c.in_ok-slots.ensures.slots, c.begun.ensures) refl
