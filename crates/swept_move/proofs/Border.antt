-- First law: a hit on the border fails test 1, at an end of the move, or test 2, at an end of the edge.
use Rattle.std.proofs.Common.{◌≡◌, ℕ, ℤ, pos, ◌+ℤ◌, ◌-ℤ◌, ◌*ℤ◌, ◌≤ℤ◌, ◌<ℤ◌, [], ◌∷◌, arith, refl, ap₂}
use Rattle.std.proofs.lemmas.Int.{ints}
use Rattle.integer_algebra.proofs.Ring.{ring, V, K, ◌⊕◌, ◌⊖◌, ◌⊗◌}
use Rattle.integer_algebra.proofs.Order.{sign_of_pos}
use Rattle.plane_exact.specs.Cone.{Cone}
use Rattle.plane_exact.specs.Distance.{square}
use Rattle.plane_exact.specs.Plane.{GridPoint, RationalPoint, IsBetween}
use Rattle.plane_exact.specs.declared.point.Seg.{Seg}
use Rattle.engrave_model.specs.Depth.{IsEdgeClear}
use Rattle.swept_move.specs.Part.{value_at}
use Rattle.swept_move.proofs.Hits.{IsNear, deep}

-- ---- an end of the edge: N^2 times the corner's margin is how much farther than the radius it is

-- n^2 times the value of a s^2 + b s + c at s = k / n
abbrev value_of : (a b c k n : ℤ) → ℤ
value_of a b c k n = value_at (record { a = a; b = b; c = c }) k n

pub margin_value : (Q R ux uy qx qy z descent S N : ℤ)
    → value_of (Q *ℤ (qx *ℤ qx +ℤ qy *ℤ qy) -ℤ R *ℤ (descent *ℤ descent)) (pos 2 *ℤ (Q *ℤ (ux *ℤ qx +ℤ uy *ℤ qy) -ℤ R *ℤ (z *ℤ descent))) (Q *ℤ (ux *ℤ ux +ℤ uy *ℤ uy) -ℤ R *ℤ (z *ℤ z)) S N
    ≡ Q *ℤ ((N *ℤ ux +ℤ S *ℤ qx) *ℤ (N *ℤ ux +ℤ S *ℤ qx) +ℤ (N *ℤ uy +ℤ S *ℤ qy) *ℤ (N *ℤ uy +ℤ S *ℤ qy)) -ℤ R *ℤ ((N *ℤ z +ℤ S *ℤ descent) *ℤ (N *ℤ z +ℤ S *ℤ descent))
margin_value Q R ux uy qx qy z descent S N =
    let x = V 9 ⊗ V 2 ⊕ V 8 ⊗ V 4 in
    let y = V 9 ⊗ V 3 ⊕ V 8 ⊗ V 5 in
    let depth = V 9 ⊗ V 6 ⊕ V 8 ⊗ V 7 in
    ring (Q ∷ R ∷ ux ∷ uy ∷ qx ∷ qy ∷ z ∷ descent ∷ S ∷ N ∷ [])
    ((V 0 ⊗ (V 4 ⊗ V 4 ⊕ V 5 ⊗ V 5) ⊖ V 1 ⊗ (V 7 ⊗ V 7)) ⊗ (V 8 ⊗ V 8)
    ⊕ (K (pos 2) ⊗ (V 0 ⊗ (V 2 ⊗ V 4 ⊕ V 3 ⊗ V 5) ⊖ V 1 ⊗ (V 6 ⊗ V 7))) ⊗ (V 8 ⊗ V 9)
    ⊕ (V 0 ⊗ (V 2 ⊗ V 2 ⊕ V 3 ⊗ V 3) ⊖ V 1 ⊗ (V 6 ⊗ V 6)) ⊗ (V 9 ⊗ V 9))
    (V 0 ⊗ (x ⊗ x ⊕ y ⊗ y) ⊖ V 1 ⊗ (depth ⊗ depth)) tt

pub corner_off : (Q R ux uy qx qy z descent S N X Y : ℤ)
    → pos 0 ≤ℤ value_of (Q *ℤ (qx *ℤ qx +ℤ qy *ℤ qy) -ℤ R *ℤ (descent *ℤ descent)) (pos 2 *ℤ (Q *ℤ (ux *ℤ qx +ℤ uy *ℤ qy) -ℤ R *ℤ (z *ℤ descent))) (Q *ℤ (ux *ℤ ux +ℤ uy *ℤ uy) -ℤ R *ℤ (z *ℤ z)) S N
    → X ≡ N *ℤ ux +ℤ S *ℤ qx → Y ≡ N *ℤ uy +ℤ S *ℤ qy → ¬ IsNear Q R X Y (deep z descent S N)
corner_off Q R ux uy qx qy z descent S N X Y margin ex ey near =
    let value = margin_value Q R ux uy qx qy z descent S N in
    let far : Q *ℤ (X *ℤ X +ℤ Y *ℤ Y) ≡ Q *ℤ ((N *ℤ ux +ℤ S *ℤ qx) *ℤ (N *ℤ ux +ℤ S *ℤ qx) +ℤ (N *ℤ uy +ℤ S *ℤ qy) *ℤ (N *ℤ uy +ℤ S *ℤ qy)) = ap₂ (λ x y. Q *ℤ (x *ℤ x +ℤ y *ℤ y)) ex ey in
    let close = near.close in
    omega (arith, ints)

-- ---- an end of the move: the disc there holds a point of the edge just where the place is a hit

pub end_close : (sd sn z px py ax ay dx dy T N X Y : ℤ) → X ≡ N *ℤ (px -ℤ ax) -ℤ T *ℤ dx → Y ≡ N *ℤ (py -ℤ ay) -ℤ T *ℤ dy
    → (square sd *ℤ (X *ℤ X +ℤ Y *ℤ Y)) <ℤ (square sn *ℤ ((N *ℤ z) *ℤ (N *ℤ z)))
    → ((square ((N *ℤ ax +ℤ T *ℤ dx) *ℤ pos 1 -ℤ px *ℤ N) +ℤ square ((N *ℤ ay +ℤ T *ℤ dy) *ℤ pos 1 -ℤ py *ℤ N)) *ℤ square (sd *ℤ pos 1))
    <ℤ (square (sn *ℤ z) *ℤ square (pos 1 *ℤ N))
end_close sd sn z px py ax ay dx dy T N X Y ex ey close =
    let far : square sd *ℤ (X *ℤ X +ℤ Y *ℤ Y) ≡ square sd *ℤ (square (N *ℤ (px -ℤ ax) -ℤ T *ℤ dx) +ℤ square (N *ℤ (py -ℤ ay) -ℤ T *ℤ dy)) = ap₂ (λ x y. square sd *ℤ (x *ℤ x +ℤ y *ℤ y)) ex ey in
    let xs = sd ∷ sn ∷ z ∷ px ∷ py ∷ ax ∷ ay ∷ dx ∷ dy ∷ T ∷ N ∷ [] in
    let x = V 10 ⊗ (V 3 ⊖ V 5) ⊖ V 9 ⊗ V 7 in
    let y = V 10 ⊗ (V 4 ⊖ V 6) ⊖ V 9 ⊗ V 8 in
    let x' = (V 10 ⊗ V 5 ⊕ V 9 ⊗ V 7) ⊗ K (pos 1) ⊖ V 3 ⊗ V 10 in
    let y' = (V 10 ⊗ V 6 ⊕ V 9 ⊗ V 8) ⊗ K (pos 1) ⊖ V 4 ⊗ V 10 in
    let left = ring xs ((V 0 ⊗ V 0) ⊗ (x ⊗ x ⊕ y ⊗ y)) ((x' ⊗ x' ⊕ y' ⊗ y') ⊗ ((V 0 ⊗ K (pos 1)) ⊗ (V 0 ⊗ K (pos 1)))) tt in
    let right = ring xs ((V 1 ⊗ V 1) ⊗ ((V 10 ⊗ V 2) ⊗ (V 10 ⊗ V 2))) (((V 1 ⊗ V 2) ⊗ (V 1 ⊗ V 2)) ⊗ ((K (pos 1) ⊗ V 10) ⊗ (K (pos 1) ⊗ V 10))) tt in
    omega (arith, ints)

module _ (cone : Cone) (p : GridPoint) (z : ℕ) (e : Seg) where
  -- the disc at p holds no point of the edge
  pub end_clear : IsEdgeClear cone p z e → (T N X Y D : ℤ) → pos 0 ≤ℤ T → T ≤ℤ N → pos 1 ≤ℤ N
      → X ≡ N *ℤ (p.x -ℤ e.a.x) -ℤ T *ℤ (e.b.x -ℤ e.a.x) → Y ≡ N *ℤ (p.y -ℤ e.a.y) -ℤ T *ℤ (e.b.y -ℤ e.a.y) → D ≡ N *ℤ pos z
      → ¬ IsNear (square (pos cone.sd)) (square (pos cone.sn)) X Y D
  unfolding IsEdgeClear
  end_clear clear T N X Y D start finish some ex ey ez near =
      let w : RationalPoint = record { x = N *ℤ e.a.x +ℤ T *ℤ (e.b.x -ℤ e.a.x); y = N *ℤ e.a.y +ℤ T *ℤ (e.b.y -ℤ e.a.y); over = N; positive = some } in
      let on : IsBetween e.a e.b w = record { at = record { k = T; n = N; start = start; finish = finish; some = some }; across = refl; up = refl } in
      let below = near.below in
      let same : square (pos cone.sn) *ℤ (D *ℤ D) ≡ square (pos cone.sn) *ℤ ((N *ℤ pos z) *ℤ (N *ℤ pos z)) = ap₂ (λ x y. square (pos cone.sn) *ℤ (x *ℤ y)) ez ez in
      let close = near.close in
      clear w on (record {
        deep = sign_of_pos N (pos z) (omega (arith, ints)) (omega (arith, ints));
        close = end_close (pos cone.sd) (pos cone.sn) (pos z) p.x p.y e.a.x e.a.y (e.b.x -ℤ e.a.x) (e.b.y -ℤ e.a.y) T N X Y ex ey (omega (arith, ints));
      })
