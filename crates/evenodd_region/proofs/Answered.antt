-- A rational point is inside by its numbers alone.
use Rattle.std.specs.Prelude.{◌↔◌, count_by}
use Rattle.std.proofs.Common.{◌≡◌, ◌%◌, List, ℤ, pos, ◌+ℤ◌, ◌-ℤ◌, ◌*ℤ◌, ◌≤ℤ◌, refl, ap, ap₂, sym, subst, ◌∙◌}
use Rattle.plane_exact.specs.Plane.{GridPoint, RationalPoint, IsBetween}
use Rattle.plane_exact.specs.declared.point.Seg.{Seg}
use Rattle.engrave_model.specs.Inside.{IsInside, is_counted}

between_same : (a b : GridPoint) (v w : RationalPoint) → w.x ≡ v.x → w.y ≡ v.y → w.over ≡ v.over → IsBetween a b v → IsBetween a b w
between_same a b v w same_x same_y same_over on = record {
  at = on.at;
  across = ap (λ z. on.at.n *ℤ z) same_x ∙ on.across ∙ ap (λ o. o *ℤ (on.at.n *ℤ a.x +ℤ on.at.k *ℤ (b.x -ℤ a.x))) (sym same_over);
  up = ap (λ z. on.at.n *ℤ z) same_y ∙ on.up ∙ ap (λ o. o *ℤ (on.at.n *ℤ a.y +ℤ on.at.k *ℤ (b.y -ℤ a.y))) (sym same_over);
}

count_same : (edges : List Seg) (v w : RationalPoint) → w.x ≡ v.x → w.y ≡ v.y → w.over ≡ v.over
    → count_by (is_counted w) edges ≡ count_by (is_counted v) edges
count_same edges v w same_x same_y same_over =
    let at : (x y over : ℤ) → pos 1 ≤ℤ over → RationalPoint = λ x y over positive. record { x = x; y = y; over = over; positive = positive } in
    let by_over : (o : ℤ) → v.over ≡ o → (positive : pos 1 ≤ℤ o) → count_by (is_counted (at v.x v.y o positive)) edges ≡ count_by (is_counted v) edges =
    (λ o is. subst (λ o. (positive : pos 1 ≤ℤ o) → count_by (is_counted (at v.x v.y o positive)) edges ≡ count_by (is_counted v) edges) is (λ positive. refl)) in
    ap₂ (λ x y. count_by (is_counted (at x y w.over w.positive)) edges) same_x same_y ∙ by_over w.over (sym same_over) w.positive

inside_same : (edges : List Seg) (v w : RationalPoint) → w.x ≡ v.x → w.y ≡ v.y → w.over ≡ v.over → IsInside edges v → IsInside edges w
inside_same edges v w same_x same_y same_over inside = record {
  off_outline = λ on. inside.off_outline
      (on.0, on.1, on.2, on.3, between_same on.1.a on.1.b w v (sym same_x) (sym same_y) (sym same_over) on.4);
  odd = ap (λ n. n % 2) (count_same edges v w same_x same_y same_over) ∙ inside.odd;
}

pub answered : (Yes : Type 0) (edges fs : List Seg) (v w : RationalPoint) → edges ≡ fs → w.x ≡ v.x → w.y ≡ v.y → w.over ≡ v.over
    → Yes ↔ IsInside edges v → Yes ↔ IsInside fs w
answered Yes edges fs v w same same_x same_y same_over told = (
  (λ y. inside_same fs v w same_x same_y same_over (subst (λ es. IsInside es v) same (told.0 y))),
  (λ inside. told.1 (subst (λ es. IsInside es v) (sym same) (inside_same fs w v (sym same_x) (sym same_y) (sym same_over) inside))),
)
