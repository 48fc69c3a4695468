-- Edges that cross have boxes that meet, and the first edge that crosses a given one.
use Rattle.std.specs.Prelude.{int_le, if◌then◌else◌, slice_index_or}
use Rattle.std.specs.List.{slice_get}
use Rattle.std.proofs.Common.{◌≡◌, inl, inr, Bool, true, false, refl, ℕ, List, [], ◌∷◌, Option, None, Some, ℤ, pos, neg_ℤ, ◌+ℤ◌, ◌≤ℤ◌, ◌<ℤ◌, arith, subst}
use Rattle.std.proofs.lemmas.Int.{ints}
use Rattle.std.proofs.lemmas.Option.{get_or_from_slice_get, slice_get_within}
use Rattle.integer_algebra.proofs.Ring.{ring, V, M, ◌⊕◌, ◌⊗◌}
use Rattle.integer_algebra.proofs.Order.{times_lt, times_neg}
use Rattle.plane_exact.specs.Plane.{RationalPoint}
use Rattle.plane_exact.specs.Meet.{IsCommon}
use Rattle.plane_exact.specs.declared.point.Seg.{Seg}
use Rattle.engrave_model.specs.Crossing.{IsCrossPair, IsCrossing}
use Rattle.evenodd_region.proofs.Bounds.{along, edge_beyond}
use Rattle.lane_kernels.specs.Boxes.{is_met}
use Rattle.lane_kernels.specs.declared.boxes.Rect.{Rect}
use Rattle.loops_text.specs.Crossing.{IsFirstCrossed}
use Rattle.loops_text.proofs.Crossings.{same_first}
use Rattle.segment_grid.specs.Near.{box_of, greater, lesser}
use Rattle.depth_rule.proofs.Leasts.{IsLeastSoFar, least_none, least_some}
use Rattle.depth_rule.specs.Together.{IsHeldIn}
use Rattle.depth_rule.proofs.Aside.{IsBeyond, missed_is_beyond, not_le}

-- ---- edges that cross have boxes that meet

common_point : (s t : Seg) → IsCrossing s t → (w : RationalPoint) × IsCommon s t w
common_point s t (inl one) = (one.point, one.common)
common_point s t (inr more) = (more.point, more.common)

-- edges of which one is, in some direction, beyond the other have no point in common
apart_along : (α β c d : ℤ) (s t : Seg) (w : RationalPoint) → d <ℤ c
    → along α β s.a.x s.a.y ≤ℤ d → along α β s.b.x s.b.y ≤ℤ d → c ≤ℤ along α β t.a.x t.a.y → c ≤ℤ along α β t.b.x t.b.y → ¬ IsCommon s t w
apart_along α β c d s t w gap s_a s_b t_a t_b common =
    let o = w.over in
    let positive = w.positive in
    let far = edge_beyond α β c t.a t.b w t_a t_b common.second in
    let turn = λ (x y : ℤ). ring (α ∷ β ∷ x ∷ y ∷ []) (M (V 0) ⊗ V 2 ⊕ M (V 1) ⊗ V 3) (M (V 0 ⊗ V 2 ⊕ V 1 ⊗ V 3)) tt in
    let at_a = turn s.a.x s.a.y in
    let at_b = turn s.b.x s.b.y in
    let at_w = turn w.x w.y in
    let near = edge_beyond (neg_ℤ α) (neg_ℤ β) (neg_ℤ d) s.a s.b w (omega (arith, ints)) (omega (arith, ints)) common.first in
    let minus = times_neg o d in
    let more = times_lt o d c (omega (arith, ints)) gap in
    omega (arith, ints)

-- two numbers are from the lesser to the greater of them
record AreFrom (low high a b : ℤ) : Type 0 where
  low_a : low ≤ℤ a
  low_b : low ≤ℤ b
  high_a : a ≤ℤ high
  high_b : b ≤ℤ high

ordered : (a b : ℤ) → AreFrom (lesser a b) (greater a b) a b
ordered a b = by_test (int_le a b) refl
  where
    by_test : (t : Bool) → int_le a b ≡ t → AreFrom (if t then a else b) (if t then b else a) a b
    by_test true e = record { low_a = omega (arith, ints); low_b = omega (arith, ints); high_a = omega (arith, ints); high_b = omega (arith, ints) }
    by_test false e =
        let f = not_le a b e in
        record { low_a = omega (arith, ints); low_b = omega (arith, ints); high_a = omega (arith, ints); high_b = omega (arith, ints) }

module _ (q : Rect) (s t : Seg) (held : IsHeldIn q s) (w : RationalPoint) (common : IsCommon s t w) where
  -- in no direction along an axis t is beyond all of s
  not_past : (α β low : ℤ) → along α β s.a.x s.a.y ≤ℤ low → along α β s.b.x s.b.y ≤ℤ low → ¬ ((low <ℤ along α β t.a.x t.a.y) × (low <ℤ along α β t.b.x t.b.y))
  not_past α β low s_a s_b past =
      let t_a = past.0 in
      let t_b = past.1 in
      apart_along α β (low +ℤ pos 1) low s t w (omega (arith, ints)) s_a s_b (omega (arith, ints)) (omega (arith, ints)) common

  not_beyond : ¬ IsBeyond q t
  not_beyond (inl (inl above)) =
      let a = held.0.right in
      let b = held.1.right in
      not_past (pos 1) (pos 0) q.x1 (omega (arith, ints)) (omega (arith, ints)) (omega (arith, ints, above.0), omega (arith, ints, above.1))
  not_beyond (inl (inr below)) =
      let a = held.0.left in
      let b = held.1.left in
      not_past (neg_ℤ (pos 1)) (pos 0) (neg_ℤ q.x0) (omega (arith, ints)) (omega (arith, ints)) (omega (arith, ints, below.0), omega (arith, ints, below.1))
  not_beyond (inr (inl above)) =
      let a = held.0.high in
      let b = held.1.high in
      not_past (pos 0) (pos 1) q.y1 (omega (arith, ints)) (omega (arith, ints)) (omega (arith, ints, above.0), omega (arith, ints, above.1))
  not_beyond (inr (inr below)) =
      let a = held.0.low in
      let b = held.1.low in
      not_past (pos 0) (neg_ℤ (pos 1)) (neg_ℤ q.y0) (omega (arith, ints)) (omega (arith, ints)) (omega (arith, ints, below.0), omega (arith, ints, below.1))

-- an edge whose box misses a box crosses no edge that this one holds
pub missed_clear : (q : Rect) (s t : Seg) → IsHeldIn q s → is_met q (box_of t) ≡ false → ¬ IsCrossing s t
missed_clear q s t held missed crossing =
    let w = common_point s t crossing in
    not_beyond q s t held w.0 w.1 (missed_is_beyond q t missed)

pub own_box : (s : Seg) → IsHeldIn (box_of s) s
own_box s =
    let x = ordered s.a.x s.b.x in
    let y = ordered s.a.y s.b.y in
    (record { left = x.low_a; right = x.high_a; low = y.low_a; high = y.high_a }, record { left = x.low_b; right = x.high_b; low = y.low_b; high = y.high_b })

-- ---- the first edge that crosses a given one

-- the edge k isn't behind the edge i and across it
abbrev pub IsClearBehind : List Seg → (i k : ℕ) → Type 0
IsClearBehind edges i k = ¬ IsCrossPair edges i k

-- the edge k is
abbrev pub IsCrossedBehind : List Seg → (i k : ℕ) → Type 0
IsCrossedBehind edges i k = IsCrossPair edges i k

module _ (edges : List Seg) (i : ℕ) (first : Seg) (is_first : slice_get edges i ≡ Some first) where
  pub clear_missed : (k : ℕ) → ((d : Seg) → is_met (box_of first) (box_of (slice_index_or edges k d)) ≡ false) → IsClearBehind edges i k
  clear_missed k missed pair =
      let second = get_or_from_slice_get edges k pair.second first pair.is_second in
      missed_clear (box_of first) first pair.second (own_box first) (subst (λ t. is_met (box_of first) (box_of t) ≡ false) second (missed first))
      (subst (λ s. IsCrossing s pair.second) (same_first edges i first is_first k pair) pair.crossing)

  pub first_crossed : (least : Option ℕ) (left : List ℕ) → left ≡ [] → IsLeastSoFar (IsClearBehind edges i) (IsCrossedBehind edges i) edges least left → IsFirstCrossed edges i least
  first_crossed None left over far =
      λ j pair. least_none (IsClearBehind edges i) (IsCrossedBehind edges i) edges left over far j (slice_get_within edges j pair.second pair.is_second) pair
  first_crossed (Some j) left over far =
      let l = least_some (IsClearBehind edges i) (IsCrossedBehind edges i) edges j left over far in
      record { pair = l.bad; before = l.before }
