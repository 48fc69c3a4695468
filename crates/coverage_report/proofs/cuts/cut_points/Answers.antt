-- Answers the goals of `cut_points`.
use Rattle.std.proofs.Common.{◌≡◌, ◌-◌, ◌*◌, ℤ, pos, ◌+ℤ◌, arith, ap, refl, subst, sym, ◌∙◌}
use Rattle.std.proofs.lemmas.Int.{ints}
use Rattle.plane_exact.specs.Plane.{GridPoint}
use Rattle.plane_exact.proofs.Stored.{narrow}
use Rattle.coverage_report.specs.Cuts.{IsRowCutBy}
use Rattle.swept_move.specs.Row.{IsRowCut, IsRowSpared}
use Rattle.coverage_report.specs.Rows.{IsPointRow, PointRow}
use Rattle.coverage_report.proofs.CutPlaces.{none_cut, points_cut, read_below, read_row}
use Rattle.coverage_report.proofs.cuts.cut_points.Goals as goal

module _ (row : PointRow) (are : IsPointRow row) where
  y_read : narrow row.y ≡ row.y
  y_read = let on = are.up in let low = on.low in let high = on.high in omega (arith, ints)

  x_read : narrow row.x ≡ row.x
  x_read = let on = are.first in let low = on.low in let high = on.high in omega (arith, ints)

  last_read : (x : ℤ) → x ≡ row.x +ℤ pos ((row.count - 1) * row.pitch) → narrow x ≡ row.x +ℤ pos ((row.count - 1) * row.pitch)
  last_read x is = let on = are.last in let low = on.low in let high = on.high in omega (arith, ints)

pub returns-in-Some : goal.returns-in-Some
returns-in-Some c =
    let row : PointRow = record { y = c.row.inside.y; x = c.row.inside.x; pitch = c.row.inside.pitch; count = c.row.inside.count } in
    let same : row ≡ c.args.row.now = c.row.view_is in
    let cone = c.args.bit.now in
    let mv = c.args.mv.now in
    let last : c.x-last.result ≡ row.x +ℤ pos ((row.count - 1) * row.pitch) =
    c.x-last.ensures.value ∙ ap (λ (p : GridPoint). p.x) c.point.ensures ∙ ap (λ (r : PointRow). r.x +ℤ pos ((row.count - 1) * r.pitch)) (sym same)
    in
    let cut = read_row (λ y x last. IsRowCut cone mv y x last c.in-Some.low c.in-Some.high) row.y row.x (row.x +ℤ pos ((row.count - 1) * row.pitch)) _ _ _ c.in-Some.ensures
    (y_read row c.row.invariant) (x_read row c.row.invariant) (last_read row c.row.invariant c.x-last.result last)
    in
    let first = c.row.invariant.first in
    let left = first.low in
    let end = c.row.invariant.last in
    let right = end.high in
    let low = cut.low in
    let some = cut.some in
    let high = cut.high in
    let x = x_read row c.row.invariant in
    subst (λ row. IsRowCutBy cone mv row c.args.start c.args.words.now c.set_between.new.words) same
    (points_cut cone mv row c.args.start c.in-Some.low c.in-Some.high cut _ _
    (read_below row.x c.in-Some.low row.pitch row.count _ _ _ _ _ c.places_below-from.ensures x (refl) (refl) (omega (arith, ints)))
    (read_below row.x (c.in-Some.high +ℤ pos 1) row.pitch row.count _ _ _ _ _ c.places_below-end.ensures x (refl) (refl) (omega (arith, ints)))
    c.args.words.now c.set_between.new.words c.set_between.ensures)

pub returns-in_default : goal.returns-in_default
returns-in_default c =
    let row : PointRow = record { y = c.row.inside.y; x = c.row.inside.x; pitch = c.row.inside.pitch; count = c.row.inside.count } in
    let same : row ≡ c.args.row.now = c.row.view_is in
    let cone = c.args.bit.now in
    let mv = c.args.mv.now in
    let last : c.x-last.result ≡ row.x +ℤ pos ((row.count - 1) * row.pitch) =
    c.x-last.ensures.value ∙ ap (λ (p : GridPoint). p.x) c.point.ensures ∙ ap (λ (r : PointRow). r.x +ℤ pos ((row.count - 1) * r.pitch)) (sym same)
    in
    subst (λ row. IsRowCutBy cone mv row c.args.start c.args.words.now c.args.words.now) same
    (none_cut cone mv row c.args.start c.args.words.now
    (read_row (IsRowSpared cone mv) row.y row.x (row.x +ℤ pos ((row.count - 1) * row.pitch)) _ _ _ c.in_default.ensures
    (y_read row c.row.invariant) (x_read row c.row.invariant) (last_read row c.row.invariant c.x-last.result last)))
