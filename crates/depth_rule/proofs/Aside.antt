-- An edge whose box misses another box is beyond one side of it; so it limits no disc within the box.
use Rattle.std.specs.Prelude.{if◌then◌else◌, int_le, ◌&&◌}
use Rattle.std.proofs.Common.{◌≡◌, ◌⊎◌, inl, inr, Bool, true, false, refl, ℕ, ◌*◌, ◌≤◌, ℤ, pos, neg_ℤ, ◌+ℤ◌, ◌-ℤ◌, ◌*ℤ◌, ◌≤ℤ◌, ◌<ℤ◌, [], ◌∷◌, arith, ap}
use Rattle.std.proofs.lemmas.Int.{ints, by_lt_z}
use Rattle.integer_algebra.proofs.Ring.{ring, V, K, ◌⊕◌, ◌⊖◌, ◌⊗◌}
use Rattle.integer_algebra.proofs.Order.{square_le, square_nonneg, times_le, times_nonneg}
use Rattle.plane_exact.specs.Cone.{Cone}
use Rattle.plane_exact.specs.Distance.{square, scaled_distance}
use Rattle.plane_exact.specs.Plane.{GridPoint, IsBetween, RationalPoint, rational}
use Rattle.plane_exact.specs.declared.point.Seg.{Seg}
use Rattle.engrave_model.specs.Depth.{IsEdgeClear}
use Rattle.evenodd_region.proofs.Bounds.{along, edge_beyond}
use Rattle.lane_kernels.specs.Boxes.{is_met, overlap}
use Rattle.lane_kernels.specs.declared.boxes.Rect.{Rect}
use Rattle.segment_grid.specs.Near.{box_of, lesser, greater}
use Rattle.swept_move.proofs.Boxes.{far_by}

-- ---- boxes that miss each other

-- a and b are both above the range, or both below it
abbrev pub AreOutside : (low high a b : ℤ) → Type 0
AreOutside low high a b = ((high <ℤ a) × (high <ℤ b)) ⊎ ((a <ℤ low) × (b <ℤ low))

pub not_le : (a b : ℤ) → int_le a b ≡ false → b <ℤ a
not_le a b above = by_lt_z b a (λ l. l) (λ le. absurd (let yes : int_le a b ≡ true = grind (arith, ints) in cc))

above_least : (h a b : ℤ) → h <ℤ lesser a b → (h <ℤ a) × (h <ℤ b)
above_least h a b = by_test (int_le a b) refl
  where
    by_test : (t : Bool) → int_le a b ≡ t → h <ℤ (if t then a else b) → (h <ℤ a) × (h <ℤ b)
    by_test true e l = (l, omega (arith, ints))
    by_test false e l = let f = not_le a b e in (omega (arith, ints), l)

below_greatest : (h a b : ℤ) → greater a b <ℤ h → (a <ℤ h) × (b <ℤ h)
below_greatest h a b = by_test (int_le a b) refl
  where
    by_test : (t : Bool) → int_le a b ≡ t → (if t then b else a) <ℤ h → (a <ℤ h) × (b <ℤ h)
    by_test true e l = (omega (arith, ints), l)
    by_test false e l = let f = not_le a b e in (l, omega (arith, ints))

outside : (low high a b : ℤ) → overlap low high (lesser a b) (greater a b) ≡ false → AreOutside low high a b
unfolding overlap
outside low high a b = by_test (int_le (lesser a b) high) refl (int_le low (greater a b)) refl
  where
    by_test : (s : Bool) → int_le (lesser a b) high ≡ s → (t : Bool) → int_le low (greater a b) ≡ t → (s && t) ≡ false → AreOutside low high a b
    by_test true es true et e = absurd cc
    by_test true es false et e = inr (below_greatest low a b (not_le low (greater a b) et))
    by_test false es t et e = inl (above_least high a b (not_le (lesser a b) high es))

-- the ends of the edge are beyond one side of the box
abbrev pub IsBeyond : Rect → Seg → Type 0
IsBeyond q e = AreOutside q.x0 q.x1 e.a.x e.b.x ⊎ AreOutside q.y0 q.y1 e.a.y e.b.y

pub missed_is_beyond : (q : Rect) (e : Seg) → is_met q (box_of e) ≡ false → IsBeyond q e
missed_is_beyond q e =
    by_test (overlap q.x0 q.x1 (lesser e.a.x e.b.x) (greater e.a.x e.b.x)) refl (overlap q.y0 q.y1 (lesser e.a.y e.b.y) (greater e.a.y e.b.y)) refl
  where
    by_test : (s : Bool) → overlap q.x0 q.x1 (lesser e.a.x e.b.x) (greater e.a.x e.b.x) ≡ s → (t : Bool)
        → overlap q.y0 q.y1 (lesser e.a.y e.b.y) (greater e.a.y e.b.y) ≡ t → (s && t) ≡ false → IsBeyond q e
    by_test true es true et missed = absurd cc
    by_test true es false et missed = inr (outside q.y0 q.y1 e.a.y e.b.y et)
    by_test false es t et missed = inl (outside q.x0 q.x1 e.a.x e.b.x es)

-- ---- discs

-- a direction along an axis
abbrev pub IsFlat : ℤ → ℤ → Type 0
IsFlat α β = (x y : ℤ) → square (along α β x y) ≤ℤ (square x +ℤ square y)

pub flat_across : (s : ℤ) → s *ℤ s ≡ pos 1 → IsFlat s (pos 0)
flat_across s unit x y =
    let e = ring (s ∷ x ∷ y ∷ []) ((V 0 ⊗ V 1 ⊕ K (pos 0) ⊗ V 2) ⊗ (V 0 ⊗ V 1 ⊕ K (pos 0) ⊗ V 2)) ((V 0 ⊗ V 0) ⊗ (V 1 ⊗ V 1)) tt in
    let f = ap (λ u. u *ℤ (x *ℤ x)) unit in
    let g = square_nonneg y in
    omega (arith, ints)

pub flat_up : (s : ℤ) → s *ℤ s ≡ pos 1 → IsFlat (pos 0) s
flat_up s unit x y =
    let e = ring (s ∷ x ∷ y ∷ []) ((K (pos 0) ⊗ V 1 ⊕ V 0 ⊗ V 2) ⊗ (K (pos 0) ⊗ V 1 ⊕ V 0 ⊗ V 2)) ((V 0 ⊗ V 0) ⊗ (V 2 ⊗ V 2)) tt in
    let f = ap (λ u. u *ℤ (y *ℤ y)) unit in
    let g = square_nonneg x in
    omega (arith, ints)

-- no point of the edge is nearer to v than r / v.over
abbrev pub IsFarOff : RationalPoint → ℤ → Seg → Type 0
IsFarOff v r e = (w : RationalPoint) → IsBetween e.a e.b w → (square r *ℤ square w.over) ≤ℤ scaled_distance v w

-- so it is where the edge lies, in some direction, so much farther than v
pub far_beyond : (α β : ℤ) → IsFlat α β → (v : RationalPoint) (r c : ℤ) (e : Seg) → pos 0 ≤ℤ r → (along α β v.x v.y +ℤ r) ≤ℤ (v.over *ℤ c)
    → c ≤ℤ along α β e.a.x e.a.y → c ≤ℤ along α β e.b.x e.b.y → IsFarOff v r e
far_beyond α β flat v r c e some before at_a at_b w on =
    let o = w.over in
    let O = v.over in
    let o_some = w.positive in
    let O_some = v.positive in
    let x = w.x *ℤ O -ℤ v.x *ℤ o in
    let y = w.y *ℤ O -ℤ v.y *ℤ o in
    let there = times_le O (o *ℤ c) (along α β w.x w.y) (omega (arith, ints)) (edge_beyond α β c e.a e.b w at_a at_b on) in
    let reached = times_le o (along α β v.x v.y +ℤ r) (O *ℤ c) (omega (arith, ints)) before in
    let turned = ring (o ∷ O ∷ c ∷ []) (V 0 ⊗ (V 1 ⊗ V 2)) (V 1 ⊗ (V 0 ⊗ V 2)) tt in
    let way = ring (α ∷ β ∷ w.x ∷ w.y ∷ v.x ∷ v.y ∷ O ∷ o ∷ [])
    (V 0 ⊗ (V 2 ⊗ V 6 ⊖ V 4 ⊗ V 7) ⊕ V 1 ⊗ (V 3 ⊗ V 6 ⊖ V 5 ⊗ V 7))
    (V 6 ⊗ (V 0 ⊗ V 2 ⊕ V 1 ⊗ V 3) ⊖ V 7 ⊗ (V 0 ⊗ V 4 ⊕ V 1 ⊗ V 5)) tt in
    let parted = ring (o ∷ along α β v.x v.y ∷ r ∷ []) (V 0 ⊗ (V 1 ⊕ V 2)) (V 0 ⊗ V 1 ⊕ V 0 ⊗ V 2) tt in
    let wide = times_nonneg o r (omega (arith, ints)) some in
    let long = square_le (o *ℤ r) (along α β x y) wide (omega (arith, ints)) in
    let short = flat x y in
    let product = ring (r ∷ o ∷ []) ((V 0 ⊗ V 0) ⊗ (V 1 ⊗ V 1)) ((V 1 ⊗ V 0) ⊗ (V 1 ⊗ V 0)) tt in
    omega (arith, ints)

-- the box with the sides r from (x, y)
abbrev pub is_round : (x y : ℤ) (r : ℕ) (q : Rect) → Type 0
is_round x y r q = (q.x0 ≡ x -ℤ pos r) × (q.y0 ≡ y -ℤ pos r) × (q.x1 ≡ x +ℤ pos r) × (q.y1 ≡ y +ℤ pos r)

-- how far a disc reaches along an axis: its radius is r, and z / over, its centre's place, lies from `whole` to the next
record IsReached (z over whole : ℤ) (r : ℕ) : Type 0 where
  right : (z +ℤ pos r *ℤ over) ≤ℤ (over *ℤ (whole +ℤ pos r +ℤ pos 1))
  left : (neg_ℤ z +ℤ pos r *ℤ over) ≤ℤ (over *ℤ (pos r +ℤ pos 1 -ℤ whole))

reached : (z over whole : ℤ) (r : ℕ) → pos 1 ≤ℤ over → (over *ℤ whole) ≤ℤ z → z <ℤ (over *ℤ (whole +ℤ pos 1)) → IsReached z over whole r
reached z over whole r some low high =
    let next = ring (over ∷ whole ∷ []) (V 0 ⊗ (V 1 ⊕ K (pos 1))) (V 0 ⊗ V 1 ⊕ V 0) tt in
    let right = ring (over ∷ whole ∷ pos r ∷ []) (V 0 ⊗ ((V 1 ⊕ V 2) ⊕ K (pos 1))) ((V 0 ⊗ V 1 ⊕ V 2 ⊗ V 0) ⊕ V 0) tt in
    let left = ring (over ∷ whole ∷ pos r ∷ []) (V 0 ⊗ ((V 2 ⊕ K (pos 1)) ⊖ V 1)) ((V 2 ⊗ V 0 ⊕ V 0) ⊖ V 0 ⊗ V 1) tt in
    record { right = omega (arith, ints); left = omega (arith, ints) }

-- An edge whose box misses the box with the sides r from the floor of v is at least r from v: so it limits no disc about v within r.
pub missed_is_far : (v : RationalPoint) (column row : ℤ) → (v.over *ℤ column) ≤ℤ v.x → v.x <ℤ (v.over *ℤ (column +ℤ pos 1)) → (v.over *ℤ row) ≤ℤ v.y → v.y <ℤ (v.over *ℤ (row +ℤ pos 1))
    → (r : ℕ) (q : Rect) → is_round column row r q → (e : Seg) → is_met q (box_of e) ≡ false → IsFarOff v (pos r *ℤ v.over) e
missed_is_far v column row low_x high_x low_y high_y r q round e missed =
    let some = v.positive in
    let wide = times_nonneg (pos r) v.over (omega (arith, ints)) (omega (arith, ints)) in
    let left = round.0 in
    let bottom = round.1 in
    let right = round.2 in
    let top = round.3 in
    let across = reached v.x v.over column r some low_x high_x in
    let up = reached v.y v.over row r some low_y high_y in
    let past_x = across.right in
    let back_x = across.left in
    let past_y = up.right in
    let back_y = up.left in
    elim (missed_is_beyond q e missed) [
      | inl beside ↦ elim beside [
        | inl ends ↦ far_beyond (pos 1) (pos 0) (flat_across (pos 1) refl) v _ (column +ℤ pos r +ℤ pos 1) e wide (omega (arith, ints)) (omega (arith, ints, ends.0)) (omega (arith, ints, ends.1))
        | inr ends ↦ far_beyond (neg_ℤ (pos 1)) (pos 0) (flat_across (neg_ℤ (pos 1)) refl) v _ (pos r +ℤ pos 1 -ℤ column) e wide (omega (arith, ints)) (omega (arith, ints, ends.0)) (omega (arith, ints, ends.1))
      ]
      | inr over ↦ elim over [
        | inl ends ↦ far_beyond (pos 0) (pos 1) (flat_up (pos 1) refl) v _ (row +ℤ pos r +ℤ pos 1) e wide (omega (arith, ints)) (omega (arith, ints, ends.0)) (omega (arith, ints, ends.1))
        | inr ends ↦ far_beyond (pos 0) (neg_ℤ (pos 1)) (flat_up (neg_ℤ (pos 1)) refl) v _ (pos r +ℤ pos 1 -ℤ row) e wide (omega (arith, ints)) (omega (arith, ints, ends.0)) (omega (arith, ints, ends.1))
      ]
    ]

-- the disc over p of a radius up to r is clear of such an edge
pub missed_is_clear : (cone : Cone) (p : GridPoint) (z r : ℕ) (q : Rect) → cone.sn * z ≤ cone.sd * r → is_round p.x p.y r q
    → (e : Seg) → is_met q (box_of e) ≡ false → IsEdgeClear cone p z e
unfolding IsEdgeClear
missed_is_clear cone p z r q wide round e missed w on inside =
    let o = w.over in
    let positive = w.positive in
    let x = w.x *ℤ pos 1 -ℤ p.x *ℤ o in
    let y = w.y *ℤ pos 1 -ℤ p.y *ℤ o in
    let far = missed_is_far (rational p) p.x p.y (omega (arith, ints)) (omega (arith, ints)) (omega (arith, ints)) (omega (arith, ints)) r q round e missed w on in
    let squared = ring (pos r ∷ o ∷ []) (((V 0 ⊗ K (pos 1)) ⊗ (V 0 ⊗ K (pos 1))) ⊗ (V 1 ⊗ V 1)) ((V 1 ⊗ V 0) ⊗ (V 1 ⊗ V 0)) tt in
    let product = times_le o (pos cone.sn *ℤ pos z) (pos cone.sd *ℤ pos r) (omega (arith, ints)) (omega (arith, ints)) in
    let left = ring (o ∷ pos cone.sn ∷ pos z ∷ []) (V 0 ⊗ (V 1 ⊗ V 2)) (V 1 ⊗ (V 0 ⊗ V 2)) tt in
    let right = ring (o ∷ pos cone.sd ∷ pos r ∷ []) (V 0 ⊗ (V 1 ⊗ V 2)) (V 1 ⊗ (V 0 ⊗ V 2)) tt in
    let deep = times_nonneg o (pos z) (omega (arith, ints)) (omega (arith, ints)) in
    let off = far_by (pos cone.sn) (pos cone.sd) (o *ℤ pos r) x y (o *ℤ pos z) (let l : pos 0 ≤ℤ pos cone.sn = omega (arith, ints) in l) deep
    (let l : (pos cone.sn *ℤ (o *ℤ pos z)) ≤ℤ (pos cone.sd *ℤ (o *ℤ pos r)) = omega (arith, ints) in l)
    (let l : ((o *ℤ pos r) *ℤ (o *ℤ pos r)) ≤ℤ (x *ℤ x +ℤ y *ℤ y) = omega (arith, ints) in l) in
    let close = inside.close in
    let m = ring (pos cone.sd ∷ x ∷ y ∷ []) ((V 1 ⊗ V 1 ⊕ V 2 ⊗ V 2) ⊗ ((V 0 ⊗ K (pos 1)) ⊗ (V 0 ⊗ K (pos 1)))) ((V 0 ⊗ V 0) ⊗ (V 1 ⊗ V 1 ⊕ V 2 ⊗ V 2)) tt in
    let n = ring (pos cone.sn ∷ pos z ∷ o ∷ []) (((V 0 ⊗ V 1) ⊗ (V 0 ⊗ V 1)) ⊗ ((K (pos 1) ⊗ V 2) ⊗ (K (pos 1) ⊗ V 2))) ((V 0 ⊗ V 0) ⊗ ((V 2 ⊗ V 1) ⊗ (V 2 ⊗ V 1))) tt in
    omega (arith, ints)
