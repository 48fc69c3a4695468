-- Answers the goals of `cut_between`.
use mir.Syntax.{w32}
use Rattle.std.proofs.Common.{◌≡◌, ℕ, ℤ, ◌+ℤ◌, pos, FitsSigned, ap, ap₂, sym, arith, ◌∙◌}
use Rattle.std.proofs.lemmas.Int.{ints, to_z-of_z}
use Rattle.plane_exact.specs.Plane.{GridPoint}
use Rattle.swept_move.proofs.Rows.{made, row_is_cut, row_spared}
use Rattle.swept_move.proofs.Widths.{held}
use Rattle.swept_move.proofs.row.cut_between.Goals as goal

-- the row's first point and its last, as the code has them
started : {p : GridPoint} (x y : ℤ) → FitsSigned w32 x → FitsSigned w32 y → p ≡ record { x = held w32 x; y = held w32 y } → p ≡ record { x = x; y = y }
started x y fits_x fits_y is = is ∙ ap₂ (λ x y. record { x = x; y = y }) (to_z-of_z w32 x fits_x) (to_z-of_z w32 y fits_y)

ended : (x0 x1 : ℤ) (last : ℕ) → FitsSigned w32 x0 → FitsSigned w32 x1 → held w32 x0 +ℤ pos last ≡ held w32 x1 → x0 +ℤ pos last ≡ x1
ended x0 x1 last fits fits' is = ap (λ z. z +ℤ pos last) (sym (to_z-of_z w32 x0 fits)) ∙ is ∙ to_z-of_z w32 x1 fits'

pub returns-in_default : goal.returns-in_default
returns-in_default c =
    let row = c.new-row.result in
    row_spared c.args.bit.now c.args.mv.now row.start row.last c.args.y c.args.x0 c.args.x1
    (started c.args.x0 c.args.y c.ranges.x0 c.ranges.y c.new-row.ensures.start) (ended c.args.x0 c.args.x1 row.last c.ranges.x0 c.ranges.x1 c.new-row.ensures.last)
    (λ j within there. c.in_default.ensures (row.start.x +ℤ pos j) there)

pub returns-then-not-point_removed : goal.returns-then-not-point_removed
returns-then-not-point_removed c =
    let bit = c.args.bit.now in
    let mv = c.args.mv.now in
    let row = c.new-row.result in
    row_spared bit mv row.start row.last c.args.y c.args.x0 c.args.x1
    (started c.args.x0 c.args.y c.ranges.x0 c.ranges.y c.new-row.ensures.start) (ended c.args.x0 c.args.x1 row.last c.ranges.x0 c.ranges.x1 c.new-row.ensures.last)
    (λ j within there.
    let yes = c.point_removed.ensures.1 ((made bit mv row.start _ c.point.ensures).1 (c.first_removed-first.ensures.holds j within there)) in
    let no = c.if-not-point_removed.true in
    cc)

pub last_removed-last-requires-clause-removed : goal.last_removed-last-requires-clause-removed
last_removed-last-requires-clause-removed c =
    (made c.args.bit.now c.args.mv.now c.new-row.result.start _ c.point.ensures).0 (c.point_removed.ensures.0 c.if-not-point_removed.false)

pub returns : goal.returns
returns c =
    let bit = c.args.bit.now in
    let mv = c.args.mv.now in
    let row = c.new-row.result in
    let start = started c.args.x0 c.args.y c.ranges.x0 c.ranges.y c.new-row.ensures.start in
    let at = ap (λ (p : GridPoint). p.x) start in
    let first = ap (λ (p : GridPoint). p.x) c.point-2.ensures in
    let last = ap (λ (p : GridPoint). p.x) c.point-3.ensures in
    let read = c.x.ensures.value in
    let read' = c.x-2.ensures.value in
    let on = c.x.ensures.range.across in
    let on' = c.x-2.ensures.range.across in
    row_is_cut bit mv row.start row.last c.args.y c.args.x0 c.args.x1 start (ended c.args.x0 c.args.x1 row.last c.ranges.x0 c.ranges.x1 c.new-row.ensures.last)
    c.first_removed-first.result c.last_removed-last.result (omega (arith, ints)) (omega (arith, ints))
    c.first_removed-first.ensures ((made bit mv row.start _ c.point.ensures).0 (c.point_removed.ensures.0 c.if-not-point_removed.false)) c.last_removed-last.ensures
