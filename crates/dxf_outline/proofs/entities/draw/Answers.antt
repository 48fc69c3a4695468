-- Answers the goals of `draw`.
use Rattle.std.proofs.lemmas.Result.{err_from_is_err_and}
use Rattle.grid_num.specs.Units.{per_unit_of}
use Rattle.dxf_outline.specs.State.{drawn_of, pairs_left}
use Rattle.dxf_outline.proofs.Drawn.{drawn_as-Err, drawn_as-Ok, drawn_as-broken}
use Rattle.dxf_outline.proofs.entities.draw.Goals as goal

pub returns-in_err-slots-clause-fault : goal.returns-in_err-slots-clause-fault
returns-in_err-slots-clause-fault c =
    let p = err_from_is_err_and c.from_residual.result c.from_residual.ensures.1 in
    rw (p.1, p.2) (λ kind. drawn_as-broken c.args.shape (per_unit_of c.args.resolution.units) c.args.resolution.chord (drawn_of c.args.outline.now) c.args.at (pairs_left c.args.pairs.now) _ c.in_err-slots.ensures.fault)

pub returns-in_err-judge-clause-fault : goal.returns-in_err-judge-clause-fault
returns-in_err-judge-clause-fault c =
    let p = err_from_is_err_and c.from_residual-in_err-judge.result c.from_residual-in_err-judge.ensures.1 in
    rw (p.1, p.2) (λ kind. drawn_as-Err c.args.shape (per_unit_of c.args.resolution.units) c.args.resolution.chord (drawn_of c.args.outline.now) c.args.at (pairs_left c.args.pairs.now) _ _ c.in_ok-slots.ensures.slots (c.in_err-judge.ensures.fault kind))

pub returns-clause-goes : goal.returns-clause-goes
returns-clause-goes c =
    drawn_as-Ok c.args.shape (per_unit_of c.args.resolution.units) c.args.resolution.chord (drawn_of c.args.outline.now) c.args.at (pairs_left c.args.pairs.now) _ _ c.in_ok-slots.ensures.slots c.in_ok-judge.ensures.drawn
