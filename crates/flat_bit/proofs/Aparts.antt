-- Points that keep a distance from the edges: by the tests of the edges near a box round the disc of that distance.
use Rattle.std.specs.Prelude.{◌↔◌, slice_index_or}
use Rattle.std.proofs.Common.{◌≡◌, ℕ, ◌*◌, ◌<◌, ◌≤◌, List, [], ◌∷◌, length, false, pos, ◌*ℤ◌, arith, subst, sym}
use Rattle.std.proofs.lemmas.Int.{ints, by_lt_z}
use Rattle.plane_exact.specs.Distance.{IsAtLeastApart, IsCloser, scaled_distance, square}
use Rattle.plane_exact.specs.Plane.{GridPoint, IsBetween, RationalPoint, rational}
use Rattle.plane_exact.specs.declared.point.Seg.{Seg}
use Rattle.engrave_model.proofs.Outline.{each_of_outline, outline_of_each}
use Rattle.lane_kernels.specs.Boxes.{is_met}
use Rattle.lane_kernels.specs.declared.boxes.Rect.{Rect}
use Rattle.segment_grid.specs.Near.{AreNear, box_of}
use Rattle.segment_grid.proofs.NearLaws.{Done, done_end, done_step, near_done}
use Rattle.depth_rule.proofs.Aside.{is_round, missed_is_far}
use Rattle.integer_algebra.proofs.Ring.{ring, V, K, ◌⊗◌}
use Rattle.integer_algebra.proofs.Order.{square_le, square_nonneg, times_le}
use Rattle.flat_bit.specs.Apart.{IsApart, IsEdgeApart}

-- ---- one edge

module _ (reach over : ℕ) (p : GridPoint) (e : Seg) where
  -- the test of the distance is that of the edge
  pub edge_apart : (Yes : Type 0) → Yes ↔ ((w : RationalPoint) → IsBetween e.a e.b w → IsAtLeastApart (pos reach) (pos over) (rational p) w) → Yes ↔ IsEdgeApart reach over (rational p) e
  edge_apart Yes test = (
    (λ yes w on close. let far = test.0 yes w on in omega (arith, ints)),
    (λ apart. test.1 (λ w on.
        by_lt_z (scaled_distance (rational p) w *ℤ square (pos over)) (square (pos reach) *ℤ square (pos 1 *ℤ w.over)) (λ close. absurd (apart w on close)) (λ far. far))),
  )

  -- an edge whose box misses the box with the sides r from p is apart, where r is no less than the distance
  pub missed_is_apart : (r : ℕ) (q : Rect) → reach ≤ over * r → is_round p.x p.y r q → is_met q (box_of e) ≡ false → IsEdgeApart reach over (rational p) e
  missed_is_apart r q wide round missed w on close =
      let far = missed_is_far (rational p) p.x p.y (omega (arith, ints)) (omega (arith, ints)) (omega (arith, ints)) (omega (arith, ints)) r q round e missed w on in
      let o = w.over in
      let d = scaled_distance (rational p) w in
      let squares = square_le (pos reach) (pos over *ℤ pos r) (omega (arith, ints)) (omega (arith, ints)) in
      let grown = times_le (square (pos 1 *ℤ o)) (square (pos reach)) (square (pos over *ℤ pos r)) (square_nonneg (pos 1 *ℤ o)) squares in
      let farther = times_le (square (pos over)) (square (pos r *ℤ pos 1) *ℤ square o) d (square_nonneg (pos over)) far in
      let turned = ring (pos reach ∷ o ∷ []) (((K (pos 1) ⊗ V 1) ⊗ (K (pos 1) ⊗ V 1)) ⊗ (V 0 ⊗ V 0)) ((V 0 ⊗ V 0) ⊗ ((K (pos 1) ⊗ V 1) ⊗ (K (pos 1) ⊗ V 1))) tt in
      let same = ring (pos over ∷ pos r ∷ o ∷ []) (((K (pos 1) ⊗ V 2) ⊗ (K (pos 1) ⊗ V 2)) ⊗ ((V 0 ⊗ V 1) ⊗ (V 0 ⊗ V 1)))
      ((V 0 ⊗ V 0) ⊗ (((V 1 ⊗ K (pos 1)) ⊗ (V 1 ⊗ K (pos 1))) ⊗ (V 2 ⊗ V 2))) tt
      in
      let side = ring (d ∷ pos over ∷ []) ((V 1 ⊗ V 1) ⊗ V 0) (V 0 ⊗ (V 1 ⊗ V 1)) tt in
      omega (arith, ints)

-- ---- the edges near a box, one after another

module _ (reach over : ℕ) (p : GridPoint) (edges : List Seg) where
  -- the edge of this number is apart
  abbrev pub IsNumberApart : ℕ → Type 0
  IsNumberApart k = (d : Seg) → IsEdgeApart reach over (rational p) (slice_index_or edges k d)

  pub none_done : (q : Rect) (ns : List ℕ) → AreNear edges q ns → ((e : Seg) → is_met q (box_of e) ≡ false → IsEdgeApart reach over (rational p) e) → Done IsNumberApart edges ns
  none_done q ns near missed = near_done q edges ns near IsNumberApart (λ k there miss d. missed _ (miss d))

  pub one_done : (k : ℕ) (all left : List ℕ) (e : Seg) → all ≡ k ∷ left → ((d : Seg) → slice_index_or edges k d ≡ e) → IsEdgeApart reach over (rational p) e
      → Done IsNumberApart edges all → Done IsNumberApart edges left
  one_done k all left e first is apart were =
      done_step IsNumberApart IsNumberApart edges k all left first (λ n so. so) (λ d. subst (IsEdgeApart reach over (rational p)) (sym (is d)) apart) were

  pub all_done : (left : List ℕ) → left ≡ [] → Done IsNumberApart edges left → IsApart edges reach over (rational p)
  all_done left none done =
      outline_of_each (λ w. ¬ IsCloser (pos reach) (pos over) (rational p) w) edges (λ k d there. done_end IsNumberApart edges left none done k there d)

  -- each edge is apart where the point is
  pub one_of_all : (k : ℕ) (e : Seg) → k < length edges → ((d : Seg) → slice_index_or edges k d ≡ e) → IsApart edges reach over (rational p) → IsEdgeApart reach over (rational p) e
  one_of_all k e there is apart =
      subst (IsEdgeApart reach over (rational p)) (is e) (each_of_outline (λ w. ¬ IsCloser (pos reach) (pos over) (rational p) w) edges apart k e there)
