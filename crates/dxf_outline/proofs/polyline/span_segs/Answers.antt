-- Answers the goals of `span_segs`.
use Rattle.std.proofs.Common.{◌≡◌, IfOk, List, ap, pos, arith, option_map, subst, sym, ◌∙◌}
use Rattle.std.proofs.lemmas.Int.{ints}
use Rattle.arc_flatten.specs.Bulges.{bulge_points}
use Rattle.arc_flatten.specs.Points.{FinePoint}
use Rattle.arc_flatten.specs.Segments.{segments_of}
use Rattle.arc_flatten.proofs.Straight.{straight}
use Rattle.dxf_outline.proofs.polyline.span_segs.Goals as goal

pub returns-then-from-eq0 : goal.returns-then-from-eq0
returns-then-from-eq0 c =
    let chord = c.args.chord in
    let p = c.from.inside.place in
    let q = c.to.inside.place in
    let low = c.from.invariant.bent.low in
    let high = c.from.invariant.bent.high in
    let zero : c.from.inside.bulge ≡ pos 0 = omega (arith, ints) in
    let from = ap (λ from. bulge_points from.place c.args.to.place from.bulge chord) (sym c.from.view_is) in
    let to = ap (λ to. bulge_points p to.place c.from.inside.bulge chord) (sym c.to.view_is) in
    let points = from ∙ to ∙ ap (λ b. bulge_points p q b chord) zero ∙ straight p q chord c.requires.high in
    subst (λ (points : List FinePoint). IfOk c.segments.result (λ segs. option_map (λ segs. segs.items) segs ≡ segments_of points)) (sym points) c.segments.ensures
