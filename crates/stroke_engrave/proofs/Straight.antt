-- A straight move removes only what is near its stroke, and at the depth of the disc all of it.
use Rattle.std.proofs.Common.{◌≡◌, ◌≤◌, ℕ, ℤ, pos, neg_ℤ, ◌+ℤ◌, ◌-ℤ◌, ◌*ℤ◌, ◌≤ℤ◌, ◌<ℤ◌, [], ◌∷◌, arith, ap, ap₂, refl, subst, sym, ◌∙◌}
use Rattle.std.proofs.lemmas.Int.{ints}
use Rattle.integer_algebra.proofs.Ring.{ring, V, K, M, ◌⊕◌, ◌⊖◌, ◌⊗◌}
use Rattle.integer_algebra.proofs.Order.{cancel_lt, cancel_same, mix_nonneg, square_le, square_nonneg, times_le, times_lt, times_nonneg, times_pos}
use Rattle.plane_exact.specs.Cone.{Cone}
use Rattle.plane_exact.specs.Distance.{square}
use Rattle.plane_exact.specs.Nodes.{place_over}
use Rattle.plane_exact.specs.Plane.{GridPoint, IsBetween, RationalPoint}
use Rattle.plane_exact.specs.declared.moves.Move.{Move}
use Rattle.engrave_model.specs.Removal.{Removes, depth_at}
use Rattle.stroke_engrave.specs.Disc.{IsNearStroke}

-- the way from the place at the moment k / n, in tenths, and from that place in grid units
way_in_tenths : (k n o a b w : ℤ) → (pos 10 *ℤ w) *ℤ n -ℤ ((n -ℤ k) *ℤ (pos 10 *ℤ a) +ℤ k *ℤ (pos 10 *ℤ b)) *ℤ o ≡ pos 10 *ℤ (w *ℤ n -ℤ (n *ℤ a +ℤ k *ℤ (b -ℤ a)) *ℤ o)
way_in_tenths k n o a b w =
    ring (k ∷ n ∷ o ∷ a ∷ b ∷ w ∷ []) ((K (pos 10) ⊗ V 5) ⊗ V 1 ⊖ ((V 1 ⊖ V 0) ⊗ (K (pos 10) ⊗ V 3) ⊕ V 0 ⊗ (K (pos 10) ⊗ V 4)) ⊗ V 2)
    (K (pos 10) ⊗ (V 5 ⊗ V 1 ⊖ (V 1 ⊗ V 3 ⊕ V 0 ⊗ (V 4 ⊖ V 3)) ⊗ V 2)) tt

-- what a disc in tenths holds, one in grid units that is no less deep does
closer_in_units : (sn sd z n o x y D : ℤ) → pos 0 ≤ℤ sn → pos 0 ≤ℤ D → D ≤ℤ (pos 10 *ℤ (z *ℤ n))
    → ((square (pos 10 *ℤ x) +ℤ square (pos 10 *ℤ y)) *ℤ square (sd *ℤ n)) <ℤ (square (sn *ℤ D) *ℤ square (n *ℤ o))
    → ((square x +ℤ square y) *ℤ square (sd *ℤ pos 1)) <ℤ (square (sn *ℤ z) *ℤ square (n *ℤ o))
closer_in_units sn sd z n o x y D slope deep most close =
    let left = ring (x ∷ y ∷ sd ∷ n ∷ [])
    (((K (pos 10) ⊗ V 3) ⊗ (K (pos 10) ⊗ V 3)) ⊗ ((V 0 ⊗ V 0 ⊕ V 1 ⊗ V 1) ⊗ ((V 2 ⊗ K (pos 1)) ⊗ (V 2 ⊗ K (pos 1)))))
    (((K (pos 10) ⊗ V 0) ⊗ (K (pos 10) ⊗ V 0) ⊕ (K (pos 10) ⊗ V 1) ⊗ (K (pos 10) ⊗ V 1)) ⊗ ((V 2 ⊗ V 3) ⊗ (V 2 ⊗ V 3))) tt
    in
    let right = ring (sn ∷ z ∷ n ∷ o ∷ [])
    (((K (pos 10) ⊗ V 2) ⊗ (K (pos 10) ⊗ V 2)) ⊗ (((V 0 ⊗ V 1) ⊗ (V 0 ⊗ V 1)) ⊗ ((V 2 ⊗ V 3) ⊗ (V 2 ⊗ V 3))))
    (((V 2 ⊗ V 3) ⊗ (V 2 ⊗ V 3)) ⊗ ((V 0 ⊗ (K (pos 10) ⊗ (V 1 ⊗ V 2))) ⊗ (V 0 ⊗ (K (pos 10) ⊗ (V 1 ⊗ V 2))))) tt
    in
    let turned = ring (square (sn *ℤ D) ∷ square (n *ℤ o) ∷ []) (V 0 ⊗ V 1) (V 1 ⊗ V 0) tt in
    let grown = times_le (square (n *ℤ o)) (square (sn *ℤ D)) (square (sn *ℤ (pos 10 *ℤ (z *ℤ n)))) (square_nonneg (n *ℤ o))
    (square_le (sn *ℤ D) (sn *ℤ (pos 10 *ℤ (z *ℤ n))) (times_nonneg sn D slope deep) (times_le sn D (pos 10 *ℤ (z *ℤ n)) slope most))
    in
    cancel_lt (square (pos 10 *ℤ n)) _ _ (square_nonneg (pos 10 *ℤ n)) (omega (arith, ints))

-- what a disc over a place with the denominator m holds, in grid units, the one in tenths over the same place with the denominator n does
closer_in_tenths : (sn sd z m n o x y u v : ℤ) → pos 0 <ℤ n → pos 0 <ℤ m → m *ℤ x ≡ n *ℤ u → m *ℤ y ≡ n *ℤ v
    → ((square u +ℤ square v) *ℤ square (sd *ℤ pos 1)) <ℤ (square (sn *ℤ z) *ℤ square (m *ℤ o))
    → ((square (pos 10 *ℤ x) +ℤ square (pos 10 *ℤ y)) *ℤ square (sd *ℤ n)) <ℤ (square (sn *ℤ (pos 10 *ℤ (z *ℤ n))) *ℤ square (n *ℤ o))
closer_in_tenths sn sd z m n o x y u v some over across up close =
    let grown = times_lt (square (pos 10 *ℤ (n *ℤ n))) ((square u +ℤ square v) *ℤ square (sd *ℤ pos 1)) (square (sn *ℤ z) *ℤ square (m *ℤ o))
    (let p = times_pos (pos 10) (n *ℤ n) (omega (arith, ints)) (times_pos n n some some) in times_pos (pos 10 *ℤ (n *ℤ n)) (pos 10 *ℤ (n *ℤ n)) p p) close in
    let left : square m *ℤ ((square (pos 10 *ℤ x) +ℤ square (pos 10 *ℤ y)) *ℤ square (sd *ℤ n)) ≡ square (pos 10 *ℤ (n *ℤ n)) *ℤ ((square u +ℤ square v) *ℤ square (sd *ℤ pos 1)) =
    ring (m ∷ x ∷ y ∷ sd ∷ n ∷ [])
    ((V 0 ⊗ V 0) ⊗ (((K (pos 10) ⊗ V 1) ⊗ (K (pos 10) ⊗ V 1) ⊕ (K (pos 10) ⊗ V 2) ⊗ (K (pos 10) ⊗ V 2)) ⊗ ((V 3 ⊗ V 4) ⊗ (V 3 ⊗ V 4))))
    (((K (pos 10) ⊗ (V 0 ⊗ V 1)) ⊗ (K (pos 10) ⊗ (V 0 ⊗ V 1)) ⊕ (K (pos 10) ⊗ (V 0 ⊗ V 2)) ⊗ (K (pos 10) ⊗ (V 0 ⊗ V 2))) ⊗ ((V 3 ⊗ V 4) ⊗ (V 3 ⊗ V 4))) tt
    ∙ ap₂ (λ a b. (square (pos 10 *ℤ a) +ℤ square (pos 10 *ℤ b)) *ℤ square (sd *ℤ n)) across up
    ∙ ring (n ∷ u ∷ v ∷ sd ∷ [])
    (((K (pos 10) ⊗ (V 0 ⊗ V 1)) ⊗ (K (pos 10) ⊗ (V 0 ⊗ V 1)) ⊕ (K (pos 10) ⊗ (V 0 ⊗ V 2)) ⊗ (K (pos 10) ⊗ (V 0 ⊗ V 2))) ⊗ ((V 3 ⊗ V 0) ⊗ (V 3 ⊗ V 0)))
    (((K (pos 10) ⊗ (V 0 ⊗ V 0)) ⊗ (K (pos 10) ⊗ (V 0 ⊗ V 0))) ⊗ ((V 1 ⊗ V 1 ⊕ V 2 ⊗ V 2) ⊗ ((V 3 ⊗ K (pos 1)) ⊗ (V 3 ⊗ K (pos 1))))) tt
    in
    let right : square m *ℤ (square (sn *ℤ (pos 10 *ℤ (z *ℤ n))) *ℤ square (n *ℤ o)) ≡ square (pos 10 *ℤ (n *ℤ n)) *ℤ (square (sn *ℤ z) *ℤ square (m *ℤ o)) =
    ring (m ∷ sn ∷ z ∷ n ∷ o ∷ [])
    ((V 0 ⊗ V 0) ⊗ (((V 1 ⊗ (K (pos 10) ⊗ (V 2 ⊗ V 3))) ⊗ (V 1 ⊗ (K (pos 10) ⊗ (V 2 ⊗ V 3)))) ⊗ ((V 3 ⊗ V 4) ⊗ (V 3 ⊗ V 4))))
    (((K (pos 10) ⊗ (V 3 ⊗ V 3)) ⊗ (K (pos 10) ⊗ (V 3 ⊗ V 3))) ⊗ (((V 1 ⊗ V 2) ⊗ (V 1 ⊗ V 2)) ⊗ ((V 0 ⊗ V 4) ⊗ (V 0 ⊗ V 4)))) tt
    in
    cancel_lt (square m) _ _ (square_nonneg m) (omega (arith, ints))

-- the way to w from a place of the stroke, by two denominators
same_way : (k n m o a b v w : ℤ) → n *ℤ v ≡ m *ℤ (n *ℤ a +ℤ k *ℤ (b -ℤ a)) → m *ℤ (w *ℤ n -ℤ (n *ℤ a +ℤ k *ℤ (b -ℤ a)) *ℤ o) ≡ n *ℤ (w *ℤ m -ℤ v *ℤ o)
same_way k n m o a b v w on =
    let at = n *ℤ a +ℤ k *ℤ (b -ℤ a) in
    ring (n ∷ m ∷ o ∷ at ∷ w ∷ []) (V 1 ⊗ (V 4 ⊗ V 0 ⊖ V 3 ⊗ V 2)) (V 0 ⊗ (V 4 ⊗ V 1) ⊖ (V 1 ⊗ V 3) ⊗ V 2) tt
    ∙ ap (λ z. n *ℤ (w *ℤ m) -ℤ z *ℤ o) (sym on)
    ∙ ring (n ∷ m ∷ o ∷ v ∷ w ∷ []) (V 0 ⊗ (V 4 ⊗ V 1) ⊖ (V 0 ⊗ V 3) ⊗ V 2) (V 0 ⊗ (V 4 ⊗ V 1 ⊖ V 3 ⊗ V 2)) tt

module _ (cone : Cone) (depth : ℕ) (some : 1 ≤ depth) (a b : GridPoint) (w : RationalPoint) where
  -- from the first end at a height to the second at another
  abbrev pub move_at : (h k : ℤ) → Move
  move_at h k = record { from = place_over a h; to = place_over b k }

  -- the tip is at no moment deeper than both ends may be
  no_deeper : (h k i n : ℤ) → neg_ℤ (pos depth) ≤ℤ h → neg_ℤ (pos depth) ≤ℤ k → pos 0 ≤ℤ i → i ≤ℤ n
      → neg_ℤ ((n -ℤ i) *ℤ (pos 10 *ℤ h) +ℤ i *ℤ (pos 10 *ℤ k)) ≤ℤ (pos 10 *ℤ (pos depth *ℤ n))
  no_deeper h k i n first last start finish =
      let mixed = mix_nonneg (n -ℤ i) i (h +ℤ pos depth) (k +ℤ pos depth) (omega (arith, ints)) start (omega (arith, ints)) (omega (arith, ints)) in
      let plain = ring (n ∷ i ∷ h ∷ k ∷ pos depth ∷ [])
      (((V 0 ⊖ V 1) ⊗ (K (pos 10) ⊗ V 2) ⊕ V 1 ⊗ (K (pos 10) ⊗ V 3)) ⊕ K (pos 10) ⊗ (V 4 ⊗ V 0))
      (K (pos 10) ⊗ ((V 0 ⊖ V 1) ⊗ (V 2 ⊕ V 4) ⊕ V 1 ⊗ (V 3 ⊕ V 4))) tt
      in
      omega (arith, ints)

  -- what a move along the stroke removes, from heights that aren't below the depth, is near the stroke
  pub near_of_removed : (h k : ℤ) → neg_ℤ (pos depth) ≤ℤ h → neg_ℤ (pos depth) ≤ℤ k → Removes cone (move_at h k) w → IsNearStroke cone depth w (record { a = a; b = b })
  near_of_removed h k first last removes =
      let s = removes.moment in
      let positive = s.some in
      let deep = removes.removed.deep in
      record {
        over = record { x = s.n *ℤ a.x +ℤ s.k *ℤ (b.x -ℤ a.x); y = s.n *ℤ a.y +ℤ s.k *ℤ (b.y -ℤ a.y); over = s.n; positive = s.some };
        on = record { at = s; across = refl; up = refl };
        near = record {
          deep = omega (arith, ints);
          close = closer_in_units (pos cone.sn) (pos cone.sd) (pos depth) s.n w.over _ _ (depth_at (move_at h k) s) (omega (arith, ints)) (omega (arith, ints))
              (no_deeper h k s.k s.n first last s.start s.finish)
              (subst (λ x. ((square x +ℤ square (pos 10 *ℤ (w.y *ℤ s.n -ℤ (s.n *ℤ a.y +ℤ s.k *ℤ (b.y -ℤ a.y)) *ℤ w.over))) *ℤ square (pos cone.sd *ℤ s.n)) <ℤ (square (pos cone.sn *ℤ depth_at (move_at h k) s) *ℤ square (s.n *ℤ w.over)))
              (way_in_tenths s.k s.n w.over a.x b.x w.x)
              (subst (λ y. ((square ((pos 10 *ℤ w.x) *ℤ s.n -ℤ ((s.n -ℤ s.k) *ℤ (pos 10 *ℤ a.x) +ℤ s.k *ℤ (pos 10 *ℤ b.x)) *ℤ w.over) +ℤ square y) *ℤ square (pos cone.sd *ℤ s.n)) <ℤ (square (pos cone.sn *ℤ depth_at (move_at h k) s) *ℤ square (s.n *ℤ w.over)))
              (way_in_tenths s.k s.n w.over a.y b.y w.y) removes.removed.close));
        };
      }

  abbrev down : ℤ
  down = neg_ℤ (pos depth)

  level_depth : (i n : ℤ) → neg_ℤ ((n -ℤ i) *ℤ (pos 10 *ℤ down) +ℤ i *ℤ (pos 10 *ℤ down)) ≡ pos 10 *ℤ (pos depth *ℤ n)
  level_depth i n =
      ring (i ∷ n ∷ pos depth ∷ []) (M ((V 1 ⊖ V 0) ⊗ (K (pos 10) ⊗ M (V 2)) ⊕ V 0 ⊗ (K (pos 10) ⊗ M (V 2)))) (K (pos 10) ⊗ (V 2 ⊗ V 1)) tt

  -- a move at the depth removes what is near the stroke
  pub removed_of_near : IsNearStroke cone depth w (record { a = a; b = b }) → Removes cone (move_at down down) w
  removed_of_near is =
      let v = is.over in
      let s = is.on.at in
      let n = s.n in
      let k = s.k in
      let o = w.over in
      let n_some = s.some in
      let v_some = v.positive in
      let depths = level_depth k n in
      let low = times_pos (pos depth) n (omega (arith, ints)) (omega (arith, ints)) in
      record {
        moment = s;
        removed = record {
          deep = omega (arith, ints);
          close = subst (λ D. ((square ((pos 10 *ℤ w.x) *ℤ n -ℤ ((n -ℤ k) *ℤ (pos 10 *ℤ a.x) +ℤ k *ℤ (pos 10 *ℤ b.x)) *ℤ o) +ℤ square ((pos 10 *ℤ w.y) *ℤ n -ℤ ((n -ℤ k) *ℤ (pos 10 *ℤ a.y) +ℤ k *ℤ (pos 10 *ℤ b.y)) *ℤ o)) *ℤ square (pos cone.sd *ℤ n)) <ℤ (square (pos cone.sn *ℤ D) *ℤ square (n *ℤ o)))
              (sym depths)
              (subst (λ x. ((square x +ℤ square ((pos 10 *ℤ w.y) *ℤ n -ℤ ((n -ℤ k) *ℤ (pos 10 *ℤ a.y) +ℤ k *ℤ (pos 10 *ℤ b.y)) *ℤ o)) *ℤ square (pos cone.sd *ℤ n)) <ℤ (square (pos cone.sn *ℤ (pos 10 *ℤ (pos depth *ℤ n))) *ℤ square (n *ℤ o)))
              (sym (way_in_tenths k n o a.x b.x w.x))
              (subst (λ y. ((square (pos 10 *ℤ (w.x *ℤ n -ℤ (n *ℤ a.x +ℤ k *ℤ (b.x -ℤ a.x)) *ℤ o)) +ℤ square y) *ℤ square (pos cone.sd *ℤ n)) <ℤ (square (pos cone.sn *ℤ (pos 10 *ℤ (pos depth *ℤ n))) *ℤ square (n *ℤ o)))
              (sym (way_in_tenths k n o a.y b.y w.y))
              (closer_in_tenths (pos cone.sn) (pos cone.sd) (pos depth) v.over n o _ _ (w.x *ℤ v.over -ℤ v.x *ℤ o) (w.y *ℤ v.over -ℤ v.y *ℤ o) (omega (arith, ints)) (omega (arith, ints))
              (same_way k n v.over o a.x b.x v.x w.x is.on.across) (same_way k n v.over o a.y b.y v.y w.y is.on.up) is.near.close)));
        };
      }

-- a point that stays is on each stroke that begins there, or ends there
stays : (p : GridPoint) (v : RationalPoint) → IsBetween p p v → (v.x ≡ v.over *ℤ p.x) × (v.y ≡ v.over *ℤ p.y)
stays p v on =
    let some = on.at.some in (
      cancel_same on.at.n v.x (v.over *ℤ p.x) (omega (arith, ints))
          (on.across ∙ ring (on.at.n ∷ on.at.k ∷ v.over ∷ p.x ∷ []) (V 2 ⊗ (V 0 ⊗ V 3 ⊕ V 1 ⊗ (V 3 ⊖ V 3))) (V 0 ⊗ (V 2 ⊗ V 3)) tt),
      cancel_same on.at.n v.y (v.over *ℤ p.y) (omega (arith, ints))
          (on.up ∙ ring (on.at.n ∷ on.at.k ∷ v.over ∷ p.y ∷ []) (V 2 ⊗ (V 0 ⊗ V 3 ⊕ V 1 ⊗ (V 3 ⊖ V 3))) (V 0 ⊗ (V 2 ⊗ V 3)) tt),
    )

module _ (cone : Cone) (depth : ℕ) (a b : GridPoint) (w : RationalPoint) where
  -- what is near the one end is near the stroke
  pub near_start : IsNearStroke cone depth w (record { a = a; b = a }) → IsNearStroke cone depth w (record { a = a; b = b })
  near_start is =
      let v = is.over in
      let at = stays a v is.on in record {
        over = v;
        on = record {
          at = record { k = pos 0; n = pos 1; start = omega (arith, ints); finish = omega (arith, ints); some = omega (arith, ints) };
          across = (let e = at.0 in let none = ring (v.over ∷ a.x ∷ b.x ∷ []) (V 0 ⊗ (K (pos 1) ⊗ V 1 ⊕ K (pos 0) ⊗ (V 2 ⊖ V 1))) (V 0 ⊗ V 1) tt in omega (arith, ints));
          up = (let e = at.1 in let none = ring (v.over ∷ a.y ∷ b.y ∷ []) (V 0 ⊗ (K (pos 1) ⊗ V 1 ⊕ K (pos 0) ⊗ (V 2 ⊖ V 1))) (V 0 ⊗ V 1) tt in omega (arith, ints));
        };
        near = is.near;
      }

  pub near_finish : IsNearStroke cone depth w (record { a = b; b = b }) → IsNearStroke cone depth w (record { a = a; b = b })
  near_finish is =
      let v = is.over in
      let at = stays b v is.on in record {
        over = v;
        on = record {
          at = record { k = pos 1; n = pos 1; start = omega (arith, ints); finish = omega (arith, ints); some = omega (arith, ints) };
          across = (let e = at.0 in let one = ring (v.over ∷ a.x ∷ b.x ∷ []) (V 0 ⊗ (K (pos 1) ⊗ V 1 ⊕ K (pos 1) ⊗ (V 2 ⊖ V 1))) (V 0 ⊗ V 2) tt in omega (arith, ints));
          up = (let e = at.1 in let one = ring (v.over ∷ a.y ∷ b.y ∷ []) (V 0 ⊗ (K (pos 1) ⊗ V 1 ⊕ K (pos 1) ⊗ (V 2 ⊖ V 1))) (V 0 ⊗ V 2) tt in omega (arith, ints));
        };
        near = is.near;
      }
