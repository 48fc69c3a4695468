-- Answers the goals of `row_inside`.
use Rattle.std.specs.Prelude.{IfSome}
use Rattle.std.proofs.Common.{◌≡◌, ℤ, length, arith, ap₂, subst, ◌∙◌}
use Rattle.std.proofs.lemmas.Int.{ints}
use Rattle.plane_exact.specs.Plane.{GridPoint, IsCoordinate}
use Rattle.plane_exact.proofs.Stored.{narrow, wide}
use Rattle.evenodd_region.proofs.Marking.{answered_row, none_marked}
use Rattle.evenodd_region.proofs.marks.row_inside.Goals as goal

-- a coordinate through a narrow integer and a wide one
read_wide : (z r : ℤ) → IsCoordinate z → r ≡ narrow z → wide r ≡ z
read_wide z r on is = let low = on.low in let high = on.high in omega (arith, ints)

pub mark_counted-requires-clause-none : goal.mark_counted-requires-clause-none
mark_counted-requires-clause-none c = none_marked _ _ (length c.args.bits.now) (c.fill.ensures.after (λ y clone. clone))

pub returns : goal.returns
returns c loops rows_are =
    let row = c.requires.row in
    let first = c.requires.first in
    let at : GridPoint = record { x = wide c.from.result; y = wide c.from-2.result } in
    let start : c.unwrap.result ≡ at = subst (λ o. IfSome o (λ p. p ≡ at)) c.unwrap.ensures c.new.ensures.value in
    let low = row.low in
    let high = row.high in
    answered_row _ c.args.rows.now _ _ _ _ c.args.y c.args.x0 _
    (start ∙ ap₂ (λ x y. record { x = x; y = y }) (read_wide c.args.x0 _ first c.from.ensures) (read_wide c.args.y _ row c.from-2.ensures))
    (omega (arith, ints)) (c.band_of-band.ensures loops rows_are) c.mark_counted.ensures c.clear_outline.ensures
