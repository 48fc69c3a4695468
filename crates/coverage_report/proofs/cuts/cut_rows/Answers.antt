-- Answers the goals of `cut_rows`.
use Rattle.std.proofs.Common.{rules, SFits, w32, ◌≡◌, ◌+◌, ◌*◌, ◌≤◌, pos, ◌+ℤ◌, ap, arith, mul-le-mul_right, ◌∙◌}
use Rattle.std.proofs.lemmas.Int.{ints}
use Rattle.coverage_report.specs.Lattices.{row_at}
use Rattle.coverage_report.specs.Rows.{PointRow}
use Rattle.coverage_report.proofs.CutGrids.{none_gone, none_in, row_more, rows_cut}
use Rattle.coverage_report.proofs.CutPlaces.{read_below}
use Rattle.coverage_report.proofs.cuts.cut_rows.Goals as goal

pub loop-k-init : goal.loop-k-init
loop-k-init c = none_in c.args.bit.now c.args.mv.now c.args.lattice.now c.args.width c.requires.wide c.places_below-from.result c.args.words.now

pub loop-k-preserved : goal.loop-k-preserved
loop-k-preserved c =
    row_more c.args.bit.now c.args.mv.now c.args.lattice.now c.args.width c.requires.wide c.places_below-from.result c.loop-k.k c.args.words.now c.loop-k.words c.cut_points.new.words
    c.row.result c.row.ensures c.cut_points.ensures (omega (arith, c.loop-k.auto.k)) c.loop-k.invariant

pub cut_points-requires : goal.cut_points-requires
cut_points-requires c =
    let count = ap (λ (r : PointRow). r.count) c.row.ensures in
    let rows = c.rows-rows.ensures.value in
    let few = c.places_below-end.ensures.few in
    let up : (c.loop-k.k + 1) * c.args.width ≤ c.args.lattice.now.rows * c.args.width = mul-le-mul_right c.args.width (omega arith) in
    omega arith

pub places_below-end-requires-clause-near : goal.places_below-end-requires-clause-near
places_below-end-requires-clause-near c = record { low = omega (arith, ints); high = omega (arith, ints) }

pub returns-after-loop-k : goal.returns-after-loop-k
returns-after-loop-k c =
    let row : PointRow = record { y = c.first.inside.y; x = c.first.inside.x; pitch = c.first.inside.pitch; count = c.first.inside.count } in
    let same : row ≡ row_at c.args.lattice.now 0 = c.first.view_is ∙ c.row-first.ensures in
    let y_is : row.y ≡ c.args.lattice.now.y +ℤ pos (0 * c.args.lattice.now.pitch) = ap (λ (r : PointRow). r.y) same in
    let pitch_is : row.pitch ≡ c.args.lattice.now.pitch = ap (λ (r : PointRow). r.pitch) same in
    let rows = c.rows-rows.ensures.value in
    let on = c.first.invariant.up in
    let bottom = on.low in
    let top = on.high in
    let low_fits : SFits w32 c.in-Some.low = search rules in
    let high_fits : SFits w32 c.in-Some.high = search rules in
    rows_cut c.args.bit.now c.args.mv.now c.args.lattice.now c.args.width c.requires.wide c.in-Some.low c.in-Some.high _ _ c.loop-k.k c.args.words.now c.loop-k.words c.in-Some.ensures
    (read_below c.args.lattice.now.y c.in-Some.low c.args.lattice.now.pitch c.args.lattice.now.rows _ _ _ _ _ c.places_below-from.ensures (omega (arith, ints)) pitch_is rows (omega (arith, ints)))
    (read_below c.args.lattice.now.y (c.in-Some.high +ℤ pos 1) c.args.lattice.now.pitch c.args.lattice.now.rows _ _ _ _ _ c.places_below-end.ensures (omega (arith, ints)) pitch_is rows (omega (arith, ints)))
    (omega arith) c.loop-k.invariant

pub returns-in_default : goal.returns-in_default
returns-in_default c = none_gone c.args.bit.now c.args.mv.now c.args.lattice.now c.args.width c.requires.wide c.args.words.now c.in_default.ensures
