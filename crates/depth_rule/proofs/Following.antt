-- Edges that follow each other, and the edges behind them that cross one of them.
use Rattle.std.specs.Prelude.{All, drop, take, slice_index_or}
use Rattle.std.specs.List.{AllWithin, slice_get}
use Rattle.std.proofs.Common.{◌≡◌, ℕ, ◌+◌, ◌-◌, ◌<◌, ◌≤◌, List, length, get_or, false, Some, arith, ap, subst, sym, ◌∙◌}
use Rattle.std.proofs.lemmas.List.{get_or-take, get_or-drop, length-take, length-drop}
use Rattle.std.proofs.lemmas.List.Elements.{AllWithin-more, at_read}
use Rattle.std.proofs.lemmas.Option.{get_or_from_slice_get, slice_get_within}
use Rattle.plane_exact.specs.Plane.{GridPoint}
use Rattle.plane_exact.specs.declared.point.Seg.{Seg}
use Rattle.engrave_model.specs.Crossing.{IsCrossPair, IsCrossing}
use Rattle.lane_kernels.specs.Boxes.{is_met}
use Rattle.lane_kernels.specs.declared.boxes.Rect.{Rect}
use Rattle.segment_grid.specs.Near.{box_of}
use Rattle.depth_rule.specs.Together.{IsHeldIn, IsInRect}
use Rattle.depth_rule.proofs.Crossings.{missed_clear}

-- ---- a box that holds the first so many edges

pub held_more : (edges : List Seg) (n : ℕ) (e : Seg) (q r s : Rect) → n < length edges → e ≡ get_or edges n e
    → ((p : GridPoint) → IsInRect q p → IsInRect r p) → IsInRect r e.a → ((p : GridPoint) → IsInRect r p → IsInRect s p) → IsInRect s e.b
    → AllWithin (IsHeldIn q) edges 0 n → AllWithin (IsHeldIn s) edges 0 (n + 1)
held_more edges n e q r s below is first a second b all =
    AllWithin-more (IsHeldIn s) edges 0 n (λ k d from to. let held = all k d from to in (second _ (first _ held.0), second _ (first _ held.1)))
    (at_read edges (IsHeldIn s) n e below is (second _ a, b))

-- ---- the edge i and those that follow it

-- no edge of those that are asked about at once, which begin with the edge i, crosses the edge l behind it
abbrev pub IsBehindAll : List Seg → (i l : ℕ) → Type 0
IsBehindAll edges i l = (k : ℕ) → i ≤ k → k < i + 8 → ¬ IsCrossPair edges k l

module _ (edges : List Seg) (i : ℕ) where
  -- the edge k is one of them
  at_follower : (k : ℕ) (e : Seg) → i ≤ k → k < i + 8 → slice_get edges k ≡ Some e → get_or (take 8 (drop i edges)) (k - i) e ≡ e
  at_follower k e from below is =
      get_or-take 8 (drop i edges) (k - i) e (omega arith)
      ∙ get_or-drop i edges (k - i) e
      ∙ ap (λ n. get_or edges n e) (let same : i + (k - i) ≡ k = omega arith in same)
      ∙ get_or_from_slice_get edges k e e is

  follower_there : (k : ℕ) (e : Seg) → i ≤ k → k < i + 8 → slice_get edges k ≡ Some e → k - i < length (take 8 (drop i edges))
  follower_there k e from below is =
      let there = slice_get_within edges k e is in
      rw length-take (rw length-drop (omega arith))

  -- an edge whose box misses one that holds them all crosses none of them
  pub missed_behind : (q : Rect) → All (IsHeldIn q) (take 8 (drop i edges)) → (l : ℕ) → ((d : Seg) → is_met q (box_of (slice_index_or edges l d)) ≡ false) → IsBehindAll edges i l
  missed_behind q held l missed k from below pair =
      let is = at_follower k pair.first from below pair.is_first in
      let first = subst (IsHeldIn q) is (held (k - i) pair.first (follower_there k pair.first from below pair.is_first)) in
      let second = get_or_from_slice_get edges l pair.second pair.first pair.is_second in
      missed_clear q pair.first pair.second first (subst (λ t. is_met q (box_of t) ≡ false) second (missed pair.first)) pair.crossing

  -- nor does one that crosses none of those before it
  pub judged_behind : (l : ℕ) (other : Seg) → slice_get edges l ≡ Some other → All (λ e. ¬ IsCrossing e other) (take (l - i) (take 8 (drop i edges))) → IsBehindAll edges i l
  judged_behind l other read clear k from below pair =
      let some = take 8 (drop i edges) in
      let order = pair.order in
      let there = follower_there k pair.first from below pair.is_first in
      let before : k - i < length (take (l - i) some) = rw length-take (omega arith) in
      let is = get_or-take (l - i) some (k - i) pair.first (omega arith) ∙ at_follower k pair.first from below pair.is_first in
      let same : pair.second ≡ other = sym (get_or_from_slice_get edges l pair.second other pair.is_second) ∙ get_or_from_slice_get edges l other other read in
      subst (λ e. ¬ IsCrossing e other) is (clear (k - i) pair.first before) (subst (IsCrossing pair.first) same pair.crossing)
