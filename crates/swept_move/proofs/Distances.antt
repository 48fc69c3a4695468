-- Whether the disc over a point holds a point of an edge, by the nearest point of the edge: an end, or the foot on its line.
use Rattle.std.proofs.Common.{◌≡◌, ◌↔◌, ℕ, ℤ, pos, neg_ℤ, ◌+ℤ◌, ◌-ℤ◌, ◌*ℤ◌, ◌≤ℤ◌, ◌<ℤ◌, [], ◌∷◌, arith, refl, ap, ap₂, ◌∙◌}
use Rattle.std.proofs.lemmas.Int.{ints, by_lt_z}
use Rattle.integer_algebra.proofs.Ring.{ring, V, K, M, ◌⊕◌, ◌⊖◌, ◌⊗◌}
use Rattle.integer_algebra.proofs.Order.{square_nonneg, times_nonneg, times_zero}
use Rattle.plane_exact.specs.Cone.{Cone}
use Rattle.plane_exact.specs.Distance.{square}
use Rattle.plane_exact.specs.Plane.{GridPoint}
use Rattle.plane_exact.specs.declared.point.Seg.{Seg}
use Rattle.plane_exact.proofs.Fractions.{first, last}
use Rattle.plane_exact.proofs.Nearest.{KeepsOff, at_first, at_foot, at_last, foot, length_squared, nearest_finish, nearest_foot, nearest_start, off_by_nearest, place}
use Rattle.engrave_model.specs.Depth.{IsEdgeClear}
use Rattle.swept_move.proofs.Border.{end_clear}
use Rattle.swept_move.proofs.Hits.{IsNear}
use Rattle.swept_move.proofs.Removing.{near_there}

-- ---- the path e + (k / n) d, which ends at f, by its nearest point

module _ (Q S ex ey dx dy fx fy : ℤ) (s : pos 0 ≤ℤ S) (across : ex +ℤ dx ≡ fx) (up : ey +ℤ dy ≡ fy) where
  by_start : pos 0 ≤ℤ (ex *ℤ dx +ℤ ey *ℤ dy) → (Q ≤ℤ (S *ℤ length_squared ex ey)) ↔ KeepsOff Q S ex ey dx dy
  by_start away = (
    (λ far. off_by_nearest Q S ex ey dx dy s first (nearest_start ex ey dx dy away) ((at_first Q S ex ey dx dy).1 far)),
    (λ off. (at_first Q S ex ey dx dy).0 (off first)),
  )

  last_length : S *ℤ length_squared (ex +ℤ dx) (ey +ℤ dy) ≡ S *ℤ length_squared fx fy
  last_length = ap₂ (λ x y. S *ℤ length_squared x y) across up

  last_way : (ex +ℤ dx) *ℤ dx +ℤ (ey +ℤ dy) *ℤ dy ≡ fx *ℤ dx +ℤ fy *ℤ dy
  last_way = ap₂ (λ x y. x *ℤ dx +ℤ y *ℤ dy) across up

  by_finish : (fx *ℤ dx +ℤ fy *ℤ dy) ≤ℤ pos 0 → (Q ≤ℤ (S *ℤ length_squared fx fy)) ↔ KeepsOff Q S ex ey dx dy
  by_finish near =
      let length = last_length in
      let way = last_way in (
        (λ far. off_by_nearest Q S ex ey dx dy s last (nearest_finish ex ey dx dy (omega (arith, ints))) ((at_last Q S ex ey dx dy).1 (omega (arith, ints)))),
        (λ off. let far = (at_last Q S ex ey dx dy).0 (off last) in omega (arith, ints)),
      )

  by_foot : (ex *ℤ dx +ℤ ey *ℤ dy) <ℤ pos 0 → pos 0 <ℤ (fx *ℤ dx +ℤ fy *ℤ dy)
      → ((Q *ℤ length_squared dx dy) ≤ℤ (S *ℤ ((dx *ℤ ey -ℤ dy *ℤ ex) *ℤ (dx *ℤ ey -ℤ dy *ℤ ex)))) ↔ KeepsOff Q S ex ey dx dy
  by_foot before after =
      let way = last_way in
      let sum = ring (ex ∷ ey ∷ dx ∷ dy ∷ []) ((V 0 ⊕ V 2) ⊗ V 2 ⊕ (V 1 ⊕ V 3) ⊗ V 3) (V 0 ⊗ V 2 ⊕ V 1 ⊗ V 3 ⊕ (V 2 ⊗ V 2 ⊕ V 3 ⊗ V 3)) tt in
      let start : (ex *ℤ dx +ℤ ey *ℤ dy) ≤ℤ pos 0 = omega (arith, ints) in
      let finish : pos 0 ≤ℤ ((ex *ℤ dx +ℤ ey *ℤ dy) +ℤ length_squared dx dy) = omega (arith, ints) in
      let long : pos 0 <ℤ length_squared dx dy = omega (arith, ints) in (
        (λ far. off_by_nearest Q S ex ey dx dy s (foot ex ey dx dy start finish long) (nearest_foot ex ey dx dy start finish long) ((at_foot Q S ex ey dx dy start finish long).1 far)),
        (λ off. (at_foot Q S ex ey dx dy start finish long).0 (off (foot ex ey dx dy start finish long))),
      )

-- ---- a disc and an edge

-- a way that is shorter than the radius at a depth is one where there is depth
pub near_of : (Q R x y D : ℤ) → pos 0 ≤ℤ Q → pos 0 ≤ℤ D → (Q *ℤ (x *ℤ x +ℤ y *ℤ y)) <ℤ (R *ℤ (D *ℤ D)) → IsNear Q R x y D
near_of Q R x y D q least close =
    let far = times_nonneg Q (x *ℤ x +ℤ y *ℤ y) q (let a = square_nonneg x in let b = square_nonneg y in omega (arith, ints)) in
    record {
      below = by_lt_z (pos 0) D (λ l. l) (λ l.
          let none : R *ℤ (D *ℤ D) ≡ pos 0 = ap (λ d. R *ℤ (d *ℤ d)) (let e : D ≡ pos 0 = omega (arith, ints) in e) ∙ times_zero R in
          absurd (omega (arith, ints)));
      close = close;
    }

way_at : (f a b w m j o : ℤ) → o *ℤ w ≡ m *ℤ (o *ℤ a +ℤ j *ℤ (b -ℤ a)) → o *ℤ (w *ℤ pos 1 -ℤ f *ℤ m) ≡ neg_ℤ (m *ℤ (o *ℤ (f -ℤ a) -ℤ j *ℤ (b -ℤ a)))
way_at f a b w m j o on =
    let xs = f ∷ a ∷ b ∷ w ∷ m ∷ j ∷ o ∷ [] in
    ring xs (V 6 ⊗ (V 3 ⊗ K (pos 1) ⊖ V 0 ⊗ V 4)) (V 6 ⊗ V 3 ⊖ V 6 ⊗ (V 0 ⊗ V 4)) tt
    ∙ ap (λ z. z -ℤ o *ℤ (f *ℤ m)) on
    ∙ ring xs (V 4 ⊗ (V 6 ⊗ V 1 ⊕ V 5 ⊗ (V 2 ⊖ V 1)) ⊖ V 6 ⊗ (V 0 ⊗ V 4)) (M (V 4 ⊗ (V 6 ⊗ (V 0 ⊖ V 1) ⊖ V 5 ⊗ (V 2 ⊖ V 1)))) tt

abbrev KeepsOffEnd : Cone → GridPoint → ℕ → Seg → Type 0
KeepsOffEnd cone p z e =
    (T N : ℤ) → pos 0 ≤ℤ T → T ≤ℤ N → pos 1 ≤ℤ N → (
    let x = N *ℤ (p.x -ℤ e.a.x) -ℤ T *ℤ (e.b.x -ℤ e.a.x) in
    let y = N *ℤ (p.y -ℤ e.a.y) -ℤ T *ℤ (e.b.y -ℤ e.a.y) in
    (square (pos cone.sn) *ℤ ((N *ℤ pos z) *ℤ (N *ℤ pos z))) ≤ℤ (square (pos cone.sd) *ℤ (x *ℤ x +ℤ y *ℤ y)))

end_kept : (cone : Cone) (p : GridPoint) (z : ℕ) (e : Seg) → KeepsOffEnd cone p z e → IsEdgeClear cone p z e
unfolding IsEdgeClear
end_kept cone p z e off w on inside =
    let some = on.at.some in
    let near = near_there (pos cone.sd) (pos cone.sn) (pos 1) w.over on.at.n _ _ (pos z) _ _ (omega (arith, ints))
    (way_at p.x e.a.x e.b.x w.x w.over on.at.k on.at.n on.across) (way_at p.y e.a.y e.b.y w.y w.over on.at.k on.at.n on.up) inside.deep inside.close in
    let close = near.close in
    let far = off on.at.k on.at.n on.at.start on.at.finish on.at.some in
    absurd (omega (arith, ints))

module _ (cone : Cone) (p : GridPoint) (z : ℕ) (e : Seg) where
  abbrev S : ℤ
  S = square (pos cone.sd)

  abbrev Q : ℤ
  Q = square (pos cone.sn) *ℤ (pos z *ℤ pos z)

  abbrev ex : ℤ
  ex = p.x -ℤ e.a.x

  abbrev ey : ℤ
  ey = p.y -ℤ e.a.y

  abbrev IsOff : Type 0
  IsOff = KeepsOff Q S ex ey (e.a.x -ℤ e.b.x) (e.a.y -ℤ e.b.y)

  off_of_clear : IsEdgeClear cone p z e → IsOff
  off_of_clear clear s =
      let k = s.k in
      let n = s.n in
      let start = s.start in
      let finish = s.finish in
      let some = s.some in
      let x = place ex (e.a.x -ℤ e.b.x) s in
      let y = place ey (e.a.y -ℤ e.b.y) s in
      let turned = λ (v a b : ℤ). ring (v ∷ a ∷ b ∷ k ∷ n ∷ []) (V 4 ⊗ (V 0 ⊖ V 1) ⊕ V 3 ⊗ (V 1 ⊖ V 2)) (V 4 ⊗ (V 0 ⊖ V 1) ⊖ V 3 ⊗ (V 2 ⊖ V 1)) tt in
      let wide = ring (square (pos cone.sn) ∷ pos z ∷ n ∷ []) ((V 0 ⊗ (V 1 ⊗ V 1)) ⊗ (V 2 ⊗ V 2)) (V 0 ⊗ ((V 2 ⊗ V 1) ⊗ (V 2 ⊗ V 1))) tt in
      by_lt_z (S *ℤ length_squared x y) (Q *ℤ (n *ℤ n))
      (λ near. absurd (end_clear cone p z e clear k n x y (n *ℤ pos z) start finish some (turned p.x e.a.x e.b.x) (turned p.y e.a.y e.b.y) refl
      (near_of S (square (pos cone.sn)) x y (n *ℤ pos z) (square_nonneg (pos cone.sd)) (times_nonneg n (pos z) (omega (arith, ints)) (omega (arith, ints))) (omega (arith, ints)))))
      (λ far. far)

  clear_of_off : IsOff → IsEdgeClear cone p z e
  clear_of_off off =
      end_kept cone p z e (λ T N from to whole.
      let far = off (record { k = T; n = N; start = from; finish = to; some = whole }) in
      let wide = ring (square (pos cone.sn) ∷ pos z ∷ N ∷ []) ((V 0 ⊗ (V 1 ⊗ V 1)) ⊗ (V 2 ⊗ V 2)) (V 0 ⊗ ((V 2 ⊗ V 1) ⊗ (V 2 ⊗ V 1))) tt in
      let x = V 1 ⊗ (V 5 ⊖ V 3) in
      let y = V 1 ⊗ (V 6 ⊖ V 4) in
      let tx = V 0 ⊗ (V 7 ⊖ V 3) in
      let ty = V 0 ⊗ (V 8 ⊖ V 4) in
      let tx' = V 0 ⊗ (V 3 ⊖ V 7) in
      let ty' = V 0 ⊗ (V 4 ⊖ V 8) in
      let long = ring (T ∷ N ∷ square (pos cone.sd) ∷ e.a.x ∷ e.a.y ∷ p.x ∷ p.y ∷ e.b.x ∷ e.b.y ∷ [])
      (V 2 ⊗ ((x ⊕ tx') ⊗ (x ⊕ tx') ⊕ (y ⊕ ty') ⊗ (y ⊕ ty'))) (V 2 ⊗ ((x ⊖ tx) ⊗ (x ⊖ tx) ⊕ (y ⊖ ty) ⊗ (y ⊖ ty))) tt in
      omega (arith, ints))

  pub clear_is_off : IsOff ↔ IsEdgeClear cone p z e
  clear_is_off = (clear_of_off, off_of_clear)

  through : {T F : Type 0} → T ↔ F → F ↔ IsOff → T ↔ IsEdgeClear cone p z e
  through test off = ((λ t. clear_is_off.0 (off.0 (test.0 t))), (λ c. test.1 (off.1 (clear_is_off.1 c))))

  -- the way from an end of the edge along it, turned round
  back : (u v : ℤ) → u *ℤ (e.b.x -ℤ e.a.x) +ℤ v *ℤ (e.b.y -ℤ e.a.y) ≡ neg_ℤ (u *ℤ (e.a.x -ℤ e.b.x) +ℤ v *ℤ (e.a.y -ℤ e.b.y))
  back u v = ring (u ∷ v ∷ e.a.x ∷ e.a.y ∷ e.b.x ∷ e.b.y ∷ []) (V 0 ⊗ (V 4 ⊖ V 2) ⊕ V 1 ⊗ (V 5 ⊖ V 3)) (M (V 0 ⊗ (V 2 ⊖ V 4) ⊕ V 1 ⊗ (V 3 ⊖ V 5))) tt

  far_x : ex +ℤ (e.a.x -ℤ e.b.x) ≡ p.x -ℤ e.b.x
  far_x = omega (arith, ints)

  far_y : ey +ℤ (e.a.y -ℤ e.b.y) ≡ p.y -ℤ e.b.y
  far_y = omega (arith, ints)

  steep : pos 0 ≤ℤ S
  steep = square_nonneg (pos cone.sd)

  pub clear_by_a : {T : Type 0} → (ex *ℤ (e.b.x -ℤ e.a.x) +ℤ ey *ℤ (e.b.y -ℤ e.a.y)) ≤ℤ pos 0 → T ↔ (Q ≤ℤ (S *ℤ length_squared ex ey)) → T ↔ IsEdgeClear cone p z e
  clear_by_a away test =
      let turned = back ex ey in
      through test (by_start Q S ex ey (e.a.x -ℤ e.b.x) (e.a.y -ℤ e.b.y) (p.x -ℤ e.b.x) (p.y -ℤ e.b.y) steep far_x far_y (omega (arith, ints)))

  pub clear_by_b : {T : Type 0} → pos 0 ≤ℤ ((p.x -ℤ e.b.x) *ℤ (e.b.x -ℤ e.a.x) +ℤ (p.y -ℤ e.b.y) *ℤ (e.b.y -ℤ e.a.y)) → T ↔ (Q ≤ℤ (S *ℤ length_squared (p.x -ℤ e.b.x) (p.y -ℤ e.b.y))) → T ↔ IsEdgeClear cone p z e
  clear_by_b near test =
      let turned = back (p.x -ℤ e.b.x) (p.y -ℤ e.b.y) in
      through test (by_finish Q S ex ey (e.a.x -ℤ e.b.x) (e.a.y -ℤ e.b.y) (p.x -ℤ e.b.x) (p.y -ℤ e.b.y) steep far_x far_y (omega (arith, ints)))

  pub clear_by_line : {T : Type 0} → pos 0 <ℤ (ex *ℤ (e.b.x -ℤ e.a.x) +ℤ ey *ℤ (e.b.y -ℤ e.a.y)) → ((p.x -ℤ e.b.x) *ℤ (e.b.x -ℤ e.a.x) +ℤ (p.y -ℤ e.b.y) *ℤ (e.b.y -ℤ e.a.y)) <ℤ pos 0
      → T ↔ ((Q *ℤ length_squared (e.a.x -ℤ e.b.x) (e.a.y -ℤ e.b.y)) ≤ℤ (S *ℤ (((e.a.x -ℤ e.b.x) *ℤ ey -ℤ (e.a.y -ℤ e.b.y) *ℤ ex) *ℤ ((e.a.x -ℤ e.b.x) *ℤ ey -ℤ (e.a.y -ℤ e.b.y) *ℤ ex)))) → T ↔ IsEdgeClear cone p z e
  clear_by_line before after test =
      let turned = back ex ey in
      let turned' = back (p.x -ℤ e.b.x) (p.y -ℤ e.b.y) in
      through test (by_foot Q S ex ey (e.a.x -ℤ e.b.x) (e.a.y -ℤ e.b.y) (p.x -ℤ e.b.x) (p.y -ℤ e.b.y) steep far_x far_y (omega (arith, ints)) (omega (arith, ints)))

-- ---- the tests, as the code makes them

-- r is sn z, and u, v are x, y
pub long_is : {T : Type 0} {r u v : ℤ} {s : ℕ} (sn z sd : ℕ) (x y : ℤ) → T ↔ ((r *ℤ r) ≤ℤ ((u *ℤ u +ℤ v *ℤ v) *ℤ (pos s *ℤ pos s))) → r ≡ pos sn *ℤ pos z → s ≡ sd → u ≡ x → v ≡ y
    → T ↔ ((square (pos sn) *ℤ (pos z *ℤ pos z)) ≤ℤ (square (pos sd) *ℤ length_squared x y))
long_is {s = s} sn z sd x y test er es eu ev =
    let least = ap₂ (λ a b. a *ℤ b) er er ∙ ring (pos sn ∷ pos z ∷ []) ((V 0 ⊗ V 1) ⊗ (V 0 ⊗ V 1)) ((V 0 ⊗ V 0) ⊗ (V 1 ⊗ V 1)) tt in
    let long = ap₂ (λ a b. (a *ℤ a +ℤ b *ℤ b) *ℤ (pos s *ℤ pos s)) eu ev ∙ ap (λ n. (x *ℤ x +ℤ y *ℤ y) *ℤ (pos n *ℤ pos n)) es
    ∙ ring (x ∷ y ∷ pos sd ∷ []) ((V 0 ⊗ V 0 ⊕ V 1 ⊗ V 1) ⊗ (V 2 ⊗ V 2)) ((V 2 ⊗ V 2) ⊗ (V 0 ⊗ V 0 ⊕ V 1 ⊗ V 1)) tt in (
      (λ t. let h = test.0 t in omega (arith, ints)),
      (λ h. test.1 (omega (arith, ints))),
    )

-- the line along the edge from a to b
pub line_is : {T : Type 0} {r ux uy gx gy : ℤ} {s : ℕ} (sn z sd : ℕ) (ex ey ax ay bx by : ℤ)
    → T ↔ (((r *ℤ r) *ℤ (gx *ℤ gx +ℤ gy *ℤ gy)) ≤ℤ (((gx *ℤ uy -ℤ gy *ℤ ux) *ℤ pos s) *ℤ ((gx *ℤ uy -ℤ gy *ℤ ux) *ℤ pos s)))
    → r ≡ pos sn *ℤ pos z → s ≡ sd → ux ≡ ex → uy ≡ ey → gx ≡ bx -ℤ ax → gy ≡ by -ℤ ay
    → T ↔ (((square (pos sn) *ℤ (pos z *ℤ pos z)) *ℤ length_squared (ax -ℤ bx) (ay -ℤ by)) ≤ℤ (square (pos sd) *ℤ (((ax -ℤ bx) *ℤ ey -ℤ (ay -ℤ by) *ℤ ex) *ℤ ((ax -ℤ bx) *ℤ ey -ℤ (ay -ℤ by) *ℤ ex))))
line_is {r = r} {ux = ux} {uy = uy} {gx = gx} {gy = gy} {s = s} sn z sd ex ey ax ay bx by test er es eu ev eg eh =
    let X = bx -ℤ ax in
    let Y = by -ℤ ay in
    let xs = pos sn ∷ pos z ∷ pos sd ∷ ex ∷ ey ∷ ax ∷ ay ∷ bx ∷ by ∷ [] in
    let g = V 7 ⊖ V 5 in
    let h = V 8 ⊖ V 6 in
    let d = V 5 ⊖ V 7 in
    let k = V 6 ⊖ V 8 in
    let side = (g ⊗ V 4 ⊖ h ⊗ V 3) ⊗ V 2 in
    let height = d ⊗ V 4 ⊖ k ⊗ V 3 in
    let least = ap₂ (λ a b. (a *ℤ a) *ℤ (b *ℤ b +ℤ gy *ℤ gy)) er eg ∙ ap (λ b. ((pos sn *ℤ pos z) *ℤ (pos sn *ℤ pos z)) *ℤ (X *ℤ X +ℤ b *ℤ b)) eh
    ∙ ring xs (((V 0 ⊗ V 1) ⊗ (V 0 ⊗ V 1)) ⊗ (g ⊗ g ⊕ h ⊗ h)) (((V 0 ⊗ V 0) ⊗ (V 1 ⊗ V 1)) ⊗ (d ⊗ d ⊕ k ⊗ k)) tt in
    let long = ap₂ (λ a b. ((a *ℤ uy -ℤ b *ℤ ux) *ℤ pos s) *ℤ ((a *ℤ uy -ℤ b *ℤ ux) *ℤ pos s)) eg eh
    ∙ ap₂ (λ a b. ((X *ℤ b -ℤ Y *ℤ a) *ℤ pos s) *ℤ ((X *ℤ b -ℤ Y *ℤ a) *ℤ pos s)) eu ev
    ∙ ap (λ n. ((X *ℤ ey -ℤ Y *ℤ ex) *ℤ pos n) *ℤ ((X *ℤ ey -ℤ Y *ℤ ex) *ℤ pos n)) es
    ∙ ring xs (side ⊗ side) ((V 2 ⊗ V 2) ⊗ (height ⊗ height)) tt in (
      (λ t. let h = test.0 t in omega (arith, ints)),
      (λ h. test.1 (omega (arith, ints))),
    )
