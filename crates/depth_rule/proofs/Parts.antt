-- An edge whose box misses the box round a part of a move's way is removed at no moment of that part; so one that misses the boxes of
-- all parts passes the tests.
use Rattle.std.proofs.Common.{◌≡◌, ◌⊎◌, inl, inr, ℕ, zero, suc, ◌+◌, ◌*◌, ◌<◌, ◌≤◌, false, ℤ, pos, neg_ℤ, ◌+ℤ◌, ◌-ℤ◌, ◌*ℤ◌, ◌≤ℤ◌, ◌<ℤ◌, [], ◌∷◌, arith, refl, subst, sym}
use Rattle.std.proofs.lemmas.Int.{ints, by_lt_z}
use Rattle.integer_algebra.proofs.Ring.{ring, V, K, M, ◌⊕◌, ◌⊖◌, ◌⊗◌}
use Rattle.integer_algebra.proofs.Order.{cancel_le, times_le, times_nonneg, square_nonneg}
use Rattle.plane_exact.specs.Cone.{Cone}
use Rattle.plane_exact.specs.Moves.{IsDeep, depth_of}
use Rattle.plane_exact.specs.Plane.{IsBetween, RationalPoint}
use Rattle.plane_exact.specs.declared.moves.Move.{Move}
use Rattle.plane_exact.specs.declared.point.Seg.{Seg}
use Rattle.engrave_model.specs.Removal.{IsRemoved, Moment, RemovesNone, between, depth_at, place_at, tenfold}
use Rattle.lane_kernels.specs.Boxes.{is_met}
use Rattle.lane_kernels.specs.declared.boxes.Rect.{Rect}
use Rattle.segment_grid.specs.Near.{box_of}
use Rattle.swept_move.specs.Clear.{PassesEdge, tenfold_edge}
use Rattle.swept_move.specs.Reach.{IsReach}
use Rattle.swept_move.proofs.Aside.{reach_least, reaches}
use Rattle.swept_move.proofs.Boxes.{far_by}
use Rattle.swept_move.proofs.Moves.{on_tenfold, passes_exactly}
use Rattle.depth_rule.specs.Around.{IsAround, place_of}
use Rattle.depth_rule.specs.Parts.{RemovesNoneBetween}
use Rattle.depth_rule.proofs.Aside.{AreOutside, IsFarOff, far_beyond, flat_across, flat_up, missed_is_beyond}

-- ---- one coordinate of the way from f to g

-- what isn't above the places at two moments isn't above those between
least_between : (c f g i j k n : ℤ) → i <ℤ j → (i *ℤ n) ≤ℤ (pos 64 *ℤ k) → (pos 64 *ℤ k) ≤ℤ (j *ℤ n) → c ≤ℤ place_of f g i → c ≤ℤ place_of f g j
    → (c *ℤ n) ≤ℤ (pos 64 *ℤ ((n -ℤ k) *ℤ f +ℤ k *ℤ g))
least_between c f g i j k n order start finish at_i at_j =
    let p = times_le (j *ℤ n -ℤ pos 64 *ℤ k) c (place_of f g i) (omega (arith, ints)) at_i in
    let q = times_le (pos 64 *ℤ k -ℤ i *ℤ n) c (place_of f g j) (omega (arith, ints)) at_j in
    let xs = c ∷ f ∷ g ∷ i ∷ j ∷ k ∷ n ∷ [] in
    let left = ring xs ((V 4 ⊖ V 3) ⊗ (V 0 ⊗ V 6)) ((V 4 ⊗ V 6 ⊖ K (pos 64) ⊗ V 5) ⊗ V 0 ⊕ (K (pos 64) ⊗ V 5 ⊖ V 3 ⊗ V 6) ⊗ V 0) tt in
    let right = ring xs ((V 4 ⊖ V 3) ⊗ (K (pos 64) ⊗ ((V 6 ⊖ V 5) ⊗ V 1 ⊕ V 5 ⊗ V 2)))
    ((V 4 ⊗ V 6 ⊖ K (pos 64) ⊗ V 5) ⊗ ((K (pos 64) ⊖ V 3) ⊗ V 1 ⊕ V 3 ⊗ V 2) ⊕ (K (pos 64) ⊗ V 5 ⊖ V 3 ⊗ V 6) ⊗ ((K (pos 64) ⊖ V 4) ⊗ V 1 ⊕ V 4 ⊗ V 2)) tt in
    cancel_le (j -ℤ i) (c *ℤ n) (pos 64 *ℤ ((n -ℤ k) *ℤ f +ℤ k *ℤ g)) (omega (arith, ints)) (omega (arith, ints))

-- the place at a moment between is so far within the range
record IsWell (r f g low high k n : ℤ) : Type 0 where
  under : (pos 10 *ℤ (low *ℤ n) +ℤ r *ℤ n) ≤ℤ ((n -ℤ k) *ℤ f +ℤ k *ℤ g)
  over : ((n -ℤ k) *ℤ f +ℤ k *ℤ g +ℤ r *ℤ n) ≤ℤ (pos 10 *ℤ (high *ℤ n))

well_within : (r f g low high i j k n : ℤ) → i <ℤ j → (i *ℤ n) ≤ℤ (pos 64 *ℤ k) → (pos 64 *ℤ k) ≤ℤ (j *ℤ n)
    → IsAround (place_of f g i) (place_of f g j) (pos 64 *ℤ r) low high → IsWell r f g low high k n
well_within r f g low high i j k n order start finish around =
    let at_low = around.low_from in
    let to_low = around.low_to in
    let at_high = around.high_from in
    let to_high = around.high_to in
    let mirror = λ (m : ℤ). ring (f ∷ g ∷ m ∷ []) ((K (pos 64) ⊖ V 2) ⊗ M (V 0) ⊕ V 2 ⊗ M (V 1)) (M ((K (pos 64) ⊖ V 2) ⊗ V 0 ⊕ V 2 ⊗ V 1)) tt in
    let at_i = mirror i in
    let at_j = mirror j in
    let under = least_between (pos 640 *ℤ low +ℤ pos 64 *ℤ r) f g i j k n order start finish at_low to_low in
    let over = least_between (pos 64 *ℤ r -ℤ pos 640 *ℤ high) (neg_ℤ f) (neg_ℤ g) i j k n order start finish (omega (arith, ints)) (omega (arith, ints)) in
    let parted = ring (low ∷ r ∷ n ∷ []) ((K (pos 640) ⊗ V 0 ⊕ K (pos 64) ⊗ V 1) ⊗ V 2) (K (pos 64) ⊗ (K (pos 10) ⊗ (V 0 ⊗ V 2) ⊕ V 1 ⊗ V 2)) tt in
    let parted' = ring (high ∷ r ∷ n ∷ []) ((K (pos 64) ⊗ V 1 ⊖ K (pos 640) ⊗ V 0) ⊗ V 2) (K (pos 64) ⊗ (V 1 ⊗ V 2 ⊖ K (pos 10) ⊗ (V 0 ⊗ V 2))) tt in
    let turned = ring (f ∷ g ∷ k ∷ n ∷ []) (K (pos 64) ⊗ ((V 3 ⊖ V 2) ⊗ M (V 0) ⊕ V 2 ⊗ M (V 1))) (K (pos 64) ⊗ M ((V 3 ⊖ V 2) ⊗ V 0 ⊕ V 2 ⊗ V 1)) tt in
    record { under = omega (arith, ints); over = omega (arith, ints) }

-- ---- an edge beyond a side of the box

module _ (cone : Cone) (mv : Move) (s : Moment) (r : ℕ) (e : Seg) where
  wide : pos 0 ≤ℤ (pos r *ℤ s.n)
  wide = let some = s.some in times_nonneg (pos r) s.n (omega (arith, ints)) (omega (arith, ints))

  far_across : (low high : ℤ) → IsWell (pos r) mv.from.at.x mv.to.at.x low high s.k s.n → AreOutside low high e.a.x e.b.x
      → IsFarOff (place_at mv s) (pos r *ℤ s.n) (tenfold_edge e)
  far_across low high well out =
      let under = well.under in
      let over = well.over in
      elim out [
        | inl above ↦
            (let l = above.0 in
            let m = above.1 in
            let turned = ring (high ∷ s.n ∷ []) (V 1 ⊗ (K (pos 10) ⊗ V 0)) (K (pos 10) ⊗ (V 0 ⊗ V 1)) tt in
            far_beyond (pos 1) (pos 0) (flat_across (pos 1) refl) (place_at mv s) _ (pos 10 *ℤ high) (tenfold_edge e) wide (omega (arith, ints)) (omega (arith, ints)) (omega (arith, ints)))
        | inr below ↦
            (let l = below.0 in
            let m = below.1 in
            let turned = ring (low ∷ s.n ∷ []) (V 1 ⊗ M (K (pos 10) ⊗ V 0)) (M (K (pos 10) ⊗ (V 0 ⊗ V 1))) tt in
            far_beyond (neg_ℤ (pos 1)) (pos 0) (flat_across (neg_ℤ (pos 1)) refl) (place_at mv s) _ (neg_ℤ (pos 10 *ℤ low)) (tenfold_edge e) wide (omega (arith, ints)) (omega (arith, ints)) (omega (arith, ints)))
      ]

  far_up : (low high : ℤ) → IsWell (pos r) mv.from.at.y mv.to.at.y low high s.k s.n → AreOutside low high e.a.y e.b.y
      → IsFarOff (place_at mv s) (pos r *ℤ s.n) (tenfold_edge e)
  far_up low high well out =
      let under = well.under in
      let over = well.over in
      elim out [
        | inl above ↦
            (let l = above.0 in
            let m = above.1 in
            let turned = ring (high ∷ s.n ∷ []) (V 1 ⊗ (K (pos 10) ⊗ V 0)) (K (pos 10) ⊗ (V 0 ⊗ V 1)) tt in
            far_beyond (pos 0) (pos 1) (flat_up (pos 1) refl) (place_at mv s) _ (pos 10 *ℤ high) (tenfold_edge e) wide (omega (arith, ints)) (omega (arith, ints)) (omega (arith, ints)))
        | inr below ↦
            (let l = below.0 in
            let m = below.1 in
            let turned = ring (low ∷ s.n ∷ []) (V 1 ⊗ M (K (pos 10) ⊗ V 0)) (M (K (pos 10) ⊗ (V 0 ⊗ V 1))) tt in
            far_beyond (pos 0) (neg_ℤ (pos 1)) (flat_up (neg_ℤ (pos 1)) refl) (place_at mv s) _ (neg_ℤ (pos 10 *ℤ low)) (tenfold_edge e) wide (omega (arith, ints)) (omega (arith, ints)) (omega (arith, ints)))
      ]

  -- no point of an edge that is as far off as the move may cut is removed at the moment
  far_spared : IsReach cone mv r → IsFarOff (place_at mv s) (pos r *ℤ s.n) (tenfold_edge e) → (w : RationalPoint) → IsBetween e.a e.b w → ¬ IsRemoved cone mv s w
  far_spared reach off w on removed =
      let o = w.over in
      let n = s.n in
      let D = depth_at mv s in
      let positive = w.positive in
      let some = s.some in
      let deep = removed.deep in
      let close = removed.close in
      let x = (pos 10 *ℤ w.x) *ℤ n -ℤ between s mv.from.at.x mv.to.at.x *ℤ o in
      let y = (pos 10 *ℤ w.y) *ℤ n -ℤ between s mv.from.at.y mv.to.at.y *ℤ o in
      let far = off (tenfold w) (on_tenfold e w on) in
      let squared = ring (pos r ∷ n ∷ o ∷ []) (((V 0 ⊗ V 1) ⊗ (V 0 ⊗ V 1)) ⊗ (V 2 ⊗ V 2)) ((V 2 ⊗ (V 0 ⊗ V 1)) ⊗ (V 2 ⊗ (V 0 ⊗ V 1))) tt in
      let last = reach_least cone.sn cone.sd r mv.to.h reach.finish in
      let down : neg_ℤ mv.from.h +ℤ (mv.from.h -ℤ mv.to.h) ≡ neg_ℤ mv.to.h = omega (arith, ints) in
      let reached = reaches (pos cone.sn) (pos cone.sd) (pos r) (neg_ℤ mv.from.h) (mv.from.h -ℤ mv.to.h) s.k n
      (reach_least cone.sn cone.sd r mv.from.h reach.start) (subst (λ z. (pos cone.sn *ℤ z) ≤ℤ (pos cone.sd *ℤ pos r)) (sym down) last) s.start s.finish in
      let depth = ring (s.k ∷ n ∷ mv.from.h ∷ mv.to.h ∷ []) (V 1 ⊗ M (V 2) ⊕ V 0 ⊗ (V 2 ⊖ V 3)) (M ((V 1 ⊖ V 0) ⊗ V 2 ⊕ V 0 ⊗ V 3)) tt in
      let least = subst (λ d. (pos cone.sn *ℤ d) ≤ℤ (pos cone.sd *ℤ (n *ℤ pos r))) depth reached in
      let product = times_le o (pos cone.sn *ℤ D) (pos cone.sd *ℤ (n *ℤ pos r)) (omega (arith, ints)) least in
      let left = ring (o ∷ pos cone.sn ∷ D ∷ []) (V 0 ⊗ (V 1 ⊗ V 2)) (V 1 ⊗ (V 0 ⊗ V 2)) tt in
      let right = ring (o ∷ pos cone.sd ∷ n ∷ pos r ∷ []) (V 0 ⊗ (V 1 ⊗ (V 2 ⊗ V 3))) (V 1 ⊗ (V 0 ⊗ (V 3 ⊗ V 2))) tt in
      let sunk = times_nonneg o D (omega (arith, ints)) (omega (arith, ints)) in
      let outside = far_by (pos cone.sn) (pos cone.sd) (o *ℤ (pos r *ℤ n)) x y (o *ℤ D) (let l : pos 0 ≤ℤ pos cone.sn = omega (arith, ints) in l) sunk
      (let l : (pos cone.sn *ℤ (o *ℤ D)) ≤ℤ (pos cone.sd *ℤ (o *ℤ (pos r *ℤ n))) = omega (arith, ints) in l)
      (let l : ((o *ℤ (pos r *ℤ n)) *ℤ (o *ℤ (pos r *ℤ n))) ≤ℤ (x *ℤ x +ℤ y *ℤ y) = omega (arith, ints) in l) in
      let scaled = times_le (n *ℤ n) ((pos cone.sn *ℤ pos cone.sn) *ℤ ((o *ℤ D) *ℤ (o *ℤ D))) ((pos cone.sd *ℤ pos cone.sd) *ℤ (x *ℤ x +ℤ y *ℤ y)) (square_nonneg n) outside in
      let m = ring (pos cone.sd ∷ x ∷ y ∷ n ∷ []) ((V 1 ⊗ V 1 ⊕ V 2 ⊗ V 2) ⊗ ((V 0 ⊗ V 3) ⊗ (V 0 ⊗ V 3))) ((V 3 ⊗ V 3) ⊗ ((V 0 ⊗ V 0) ⊗ (V 1 ⊗ V 1 ⊕ V 2 ⊗ V 2))) tt in
      let q = ring (pos cone.sn ∷ D ∷ o ∷ n ∷ []) (((V 0 ⊗ V 1) ⊗ (V 0 ⊗ V 1)) ⊗ ((V 3 ⊗ V 2) ⊗ (V 3 ⊗ V 2))) ((V 3 ⊗ V 3) ⊗ ((V 0 ⊗ V 0) ⊗ ((V 2 ⊗ V 1) ⊗ (V 2 ⊗ V 1)))) tt in
      omega (arith, ints)

-- a bit that reaches some way has some width
pub steep : (cone : Cone) (mv : Move) (r : ℕ) → 1 ≤ r → IsReach cone mv r → 1 ≤ cone.sn
steep cone mv r some reach = by_slope cone.sn refl
  where
    by_slope : (sn : ℕ) → cone.sn ≡ sn → 1 ≤ sn
    by_slope zero none =
        let flat : (z : ℕ) → cone.sn * z ≤ cone.sd * 0 = λ z. subst (λ n. n * z ≤ cone.sd * 0) (sym none) (omega arith) in
        let least : r ≤ 0 = reach.least 0 (flat (depth_of mv.from.h)) (flat (depth_of mv.to.h)) in
        absurd (omega arith)
    by_slope (suc n) is = omega arith

-- an edge whose box misses the box round a part is removed at no moment of the part
module _ (cone : Cone) (mv : Move) (r i j : ℕ) (reach : IsReach cone mv r) (order : i < j) (q : Rect)
    (across : IsAround (place_of mv.from.at.x mv.to.at.x (pos i)) (place_of mv.from.at.x mv.to.at.x (pos j)) (pos 64 *ℤ pos r) q.x0 q.x1)
    (up : IsAround (place_of mv.from.at.y mv.to.at.y (pos i)) (place_of mv.from.at.y mv.to.at.y (pos j)) (pos 64 *ℤ pos r) q.y0 q.y1) where
  pub missed_is_spared : (e : Seg) → is_met q (box_of e) ≡ false → RemovesNoneBetween cone mv i j e
  missed_is_spared e missed s within =
      let ordered : pos i <ℤ pos j = omega (arith, ints) in
      far_spared cone mv s r e reach (elim (missed_is_beyond q e missed) [
        | inl out ↦ far_across cone mv s r e q.x0 q.x1 (well_within (pos r) mv.from.at.x mv.to.at.x q.x0 q.x1 (pos i) (pos j) s.k s.n ordered within.start within.finish across) out
        | inr out ↦ far_up cone mv s r e q.y0 q.y1 (well_within (pos r) mv.from.at.y mv.to.at.y q.y0 q.y1 (pos i) (pos j) s.k s.n ordered within.start within.finish up) out
      ])

-- ---- parts put together

module _ (cone : Cone) (mv : Move) (e : Seg) where
  -- no moment removes a point of it
  pub whole_spared : RemovesNoneBetween cone mv 0 64 e → RemovesNone cone mv e
  whole_spared none s =
      let start = s.start in
      let finish = s.finish in
      none s (record { start = omega (arith, ints); finish = omega (arith, ints) })

  -- so it passes the tests
  pub spared_passes : 1 ≤ cone.sn → IsDeep mv → RemovesNoneBetween cone mv 0 64 e → PassesEdge cone mv e
  spared_passes slope deep none = (passes_exactly cone mv e slope deep).1 (whole_spared none)

  -- the parts so far, and the next
  pub spared_more : (k : ℕ) → (k ≡ 0) ⊎ RemovesNoneBetween cone mv 0 k e → RemovesNoneBetween cone mv k (k + 1) e → RemovesNoneBetween cone mv 0 (k + 1) e
  spared_more k before next s within =
      let some = s.some in
      let finish = within.finish in
      by_lt_z (pos 64 *ℤ s.k) (pos k *ℤ s.n)
      (λ early. elim before [
        | inl none ↦ next s (record { start = (let start = within.start in let z : pos k *ℤ s.n ≡ pos 0 *ℤ s.n = (subst (λ (m : ℕ). pos k *ℤ s.n ≡ pos m *ℤ s.n) none refl) in omega (arith, ints)); finish = finish })
        | inr spared ↦ spared s (record { start = within.start; finish = omega (arith, ints) })
      ])
      (λ late. next s (record { start = late; finish = finish }))
