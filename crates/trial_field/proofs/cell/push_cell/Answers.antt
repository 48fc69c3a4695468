-- Answers the goals of `push_cell`.
use Rattle.std.proofs.Common.{◌∙◌, ◌++◌, ◌∷◌, [], ap, ap₂, sym, arith, append_assoc, length, pos}
use Rattle.std.proofs.lemmas.List.Sums.{sum_by_push}
use Rattle.std.proofs.lemmas.Result.{on_ok_weaker}
use Rattle.loops_text.specs.Edges.{push_fault}
use Rattle.trial_field.specs.Field.{far_of, near_of, octagon, square}
use Rattle.trial_field.proofs.Cells.{even_cell, odd_cell}
use Rattle.trial_field.proofs.Fitting.{octagon_fits, square_fits}
use Rattle.trial_field.proofs.cell.push_cell.Goals as goal

pub push-requires : goal.push-requires
push-requires c =
    ap (push_fault c.args.field.now) c.octagon.ensures
    ∙ octagon_fits c.args.field.now c.middle_of-middle.result (far_of c.args.cell) (near_of c.args.cell) (omega arith) (omega arith) c.requires.few

pub push-requires-else-cell-eq0-2 : goal.push-requires-else-cell-eq0-2
push-requires-else-cell-eq0-2 c =
    let before = c.args.field.now ++ c.square.result ∷ [] in
    let four = ap length c.square.ensures in
    ap₂ (λ loops points. push_fault loops points) c.in_ok-push.ensures c.square-else-cell-eq0.ensures
    ∙ square_fits before c.middle_of-middle.result (near_of c.args.cell) (omega arith)
    (omega (arith, c.requires.few, sum_by_push length c.args.field.now c.square.result, four))

pub returns-then-cell-eq0 : goal.returns-then-cell-eq0
returns-then-cell-eq0 c =
    let i = c.args.cell in
    let points = c.octagon.ensures ∙ ap (λ m. octagon m (pos (far_of i)) (pos (near_of i))) c.middle_of-middle.ensures.value in
    let loops = ap (λ points. points ∷ []) points ∙ sym (even_cell i c.if-cell-eq0.true) in
    on_ok_weaker c.push.result (λ pushed. pushed ∙ ap (λ loops. c.args.field.now ++ loops) loops) c.push.ensures

pub returns-in_ok-push : goal.returns-in_ok-push
returns-in_ok-push c =
    let i = c.args.cell in
    let field = c.args.field.now in
    let outer = c.square.ensures ∙ ap (λ m. square m (pos (far_of i))) c.middle_of-middle.ensures.value in
    let inner = c.square-else-cell-eq0.ensures ∙ ap (λ m. square m (pos (near_of i))) c.middle_of-middle.ensures.value in
    let loops = ap₂ (λ outer inner. outer ∷ inner ∷ []) outer inner ∙ sym (odd_cell i c.if-cell-eq0.false) in
    let first = ap (λ loops. loops ++ c.square-else-cell-eq0.result ∷ []) c.in_ok-push.ensures in
    let both = first ∙ append_assoc field (c.square.result ∷ []) (c.square-else-cell-eq0.result ∷ []) in
    on_ok_weaker c.push-else-cell-eq0-2.result (λ pushed. pushed ∙ both ∙ ap (λ loops. field ++ loops) loops) c.push-else-cell-eq0-2.ensures
