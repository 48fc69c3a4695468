-- Answers the goals of `stroke_cut`.
use Rattle.std.proofs.Common.{subst, sym, ◌∙◌, Err, Ok}
use Rattle.std.proofs.lemmas.Result.{err_from_is_err_and}
use Rattle.stroke_engrave.specs.Cut.{AreStrokeCounts}
use Rattle.stroke_engrave.proofs.Cutting.{cut_of_strokes, none_cut}
use Rattle.stroke_engrave.proofs.cut.stroke_cut.Goals as goal

pub returns-in_default : goal.returns-in_default
returns-in_default c =
    subst (λ strokes. AreStrokeCounts c.args.bit.now c.args.depth strokes c.args.pitch 0 0) (sym c.in_default.ensures) (none_cut c.args.bit.now c.args.depth c.args.pitch)

pub returns-in_err-count : goal.returns-in_err-count
returns-in_err-count c =
    let bounds = c.in-Some.bounds in
    let p = err_from_is_err_and c.from_residual-in_err-count.result c.from_residual-in_err-count.ensures.1 in
    rw (p.1, p.2) (
    cut_of_strokes c.args.bit.now c.args.depth c.args.strokes.now c.args.pitch bounds.low bounds.high c.in-Some.ensures c.requires.depth.low c.deref.result.now
    (c.deref.ensures.value ∙ c.in_ok-moves.ensures) (Err c.in_err-count.field-0.0) c.in_err-count.ensures)

pub returns : goal.returns
returns c =
    let bounds = c.in-Some.bounds in
    cut_of_strokes c.args.bit.now c.args.depth c.args.strokes.now c.args.pitch bounds.low bounds.high c.in-Some.ensures c.requires.depth.low c.deref.result.now
    (c.deref.ensures.value ∙ c.in_ok-moves.ensures) (Ok c.in_ok-count.count) c.in_ok-count.ensures
