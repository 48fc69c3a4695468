-- Answers the goals of `circle_point`.
use mir.Syntax.{w64}
use Rattle.std.proofs.Common.{◌≡◌, ℤ, pos, ◌+ℤ◌, ◌*ℤ◌, arith, ap, ap₂, ◌∙◌}
use Rattle.std.proofs.lemmas.Int.{ints, to_z-of_z}
use Rattle.integer_algebra.specs.Ranges.{IsUpTo}
use Rattle.grid_num.specs.Rounding.{nearest}
use Rattle.plane_exact.proofs.Stored.{wide}
use Rattle.arc_flatten.specs.Arcs.{circle_point_of}
use Rattle.arc_flatten.specs.Points.{FinePoint}
use Rattle.arc_flatten.proofs.Bounded.{shifted}
use Rattle.arc_flatten.proofs.circle.circle_point.Goals as goal

pub invariant_of-result : goal.invariant_of-result
invariant_of-result c =
    let x = shifted c.c.inside.x c.args.c.x c.scaled.result (ap (λ (p : FinePoint). p.x) c.c.view_is) c.requires.centre.across c.scaled.ensures.size in
    let y = shifted c.c.inside.y c.args.c.y c.scaled-2.result (ap (λ (p : FinePoint). p.y) c.c.view_is) c.requires.centre.up c.scaled-2.ensures.size in
    record { across = x.range; up = y.range }

pub returns : goal.returns
unfolding circle_point_of
returns c =
    let x = shifted c.c.inside.x c.args.c.x c.scaled.result (ap (λ (p : FinePoint). p.x) c.c.view_is) c.requires.centre.across c.scaled.ensures.size in
    let y = shifted c.c.inside.y c.args.c.y c.scaled-2.result (ap (λ (p : FinePoint). p.y) c.c.view_is) c.requires.centre.up c.scaled-2.ensures.size in
    let make : ℤ → ℤ → FinePoint = λ u v. record { x = u; y = v } in
    let r_is = to_z-of_z w64 c.args.r c.ranges.r in
    let x_scaled = c.scaled.ensures.value ∙ scaled_same c.direction-way.result.0 _ c.direction-way.ensures.across r_is (ap (λ (way : ℤ × ℤ). way.0) c.direction-way.ensures.value) in
    let y_scaled = c.scaled-2.ensures.value ∙ scaled_same c.direction-way.result.1 _ c.direction-way.ensures.up r_is (ap (λ (way : ℤ × ℤ). way.1) c.direction-way.ensures.value) in
    ap₂ make (x.value ∙ ap (λ z. c.args.c.x +ℤ z) x_scaled) (y.value ∙ ap (λ z. c.args.c.y +ℤ z) y_scaled)
  where
    scaled_same : (k component : ℤ) → IsUpTo (pos 1073741824) k → wide c.args.r ≡ c.args.r → k ≡ component → nearest (wide c.args.r *ℤ wide k) 1073741824 ≡ nearest (c.args.r *ℤ component) 1073741824
    scaled_same k component on r_is is =
        let low = on.low in
        let high = on.high in
        let read : wide k ≡ k = omega (arith, ints) in
        ap₂ (λ u v. nearest (u *ℤ v) 1073741824) r_is (read ∙ is)
