-- An inside point is strictly within the bounds of the drawing's points.
--
-- From a point on or beyond a side of the box a straight path leads away from it, on which only its start may be on the box. So it
-- meets no edge, and its far end, above or below all points, isn't inside, for no edge passes its row.
use borrow.Author.Differences.{true_is_le}
use Rattle.std.specs.Prelude.{All, count_by, if◌then◌else◌, int_le}
use Rattle.std.proofs.Common.{◌≡◌, ℕ, ◌+◌, Bool, false, refl, List, [], ◌∷◌, ℤ, pos, neg_ℤ, ◌+ℤ◌, ◌-ℤ◌, ◌*ℤ◌, ◌≤ℤ◌, ◌<ℤ◌, arith, ap, ap₂, sym, subst, ◌∙◌}
use Rattle.std.proofs.lemmas.Int.{ints, by_lt_z}
use Rattle.std.proofs.lemmas.List.Elements.{All-nil, All-cons, All-head, All-tail, All-append, All-weaker}
use Rattle.std.proofs.lemmas.List.Sums.{sum_by-cons}
use Rattle.integer_algebra.proofs.Ring.{ring, V, K, ◌⊕◌, ◌⊖◌, ◌⊗◌}
use Rattle.integer_algebra.proofs.Order.{times_nonneg, times_pos, times_neg, cancel_le, cancel_lt, cancel_same}
use Rattle.plane_exact.specs.Plane.{GridPoint, RationalPoint, IsBetween, rational}
use Rattle.plane_exact.specs.declared.point.Seg.{Seg}
use Rattle.engrave_model.specs.Drawing.{edges_back_to, edges_of_loop, edges_of}
use Rattle.engrave_model.specs.Inside.{IsInside, is_counted}
use Rattle.evenodd_region.specs.Bounds.{IsInBox, InsideBoxLaw, points_of}
use Rattle.plane_exact.specs.Plane.{IsOnPath}
use Rattle.evenodd_region.specs.Parity.{IsPathFree}
use Rattle.evenodd_region.proofs.Counting.{beside_row}
use Rattle.evenodd_region.proofs.Rounds.{parity, split}

-- ---- the ends of the edges are points of the loops

module _ (low high : GridPoint) where
  abbrev In : GridPoint → Type 0
  In = IsInBox low high

  abbrev HasEndsIn : Seg → Type 0
  HasEndsIn e = In e.a × In e.b

  back_to : (first : GridPoint) (points : List GridPoint) → In first → All In points → All HasEndsIn (edges_back_to first points)
  back_to first [] is all = All-nil HasEndsIn
  back_to first (p ∷ []) is all = All-cons HasEndsIn (record { a = p; b = first }) [] (All-head In p [] all, is) (All-nil HasEndsIn)
  back_to first (p ∷ q ∷ points) is all =
      let rest = All-tail In p (q ∷ points) all in
      All-cons HasEndsIn (record { a = p; b = q }) (edges_back_to first (q ∷ points))
      (All-head In p (q ∷ points) all, All-head In q points rest) (back_to first (q ∷ points) is rest)

  of_loop : (points : List GridPoint) → All In points → All HasEndsIn (edges_of_loop points)
  of_loop [] all = All-nil HasEndsIn
  of_loop (p ∷ points) all = back_to p (p ∷ points) (All-head In p points all) all

  pub ends_in : (loops : List (List GridPoint)) → All In (points_of loops) → All HasEndsIn (edges_of loops)
  ends_in [] all = All-nil HasEndsIn
  ends_in (points ∷ loops) all =
      let parts = split In points (points_of loops) all in
      All-append HasEndsIn (edges_of_loop points) (edges_of loops) (of_loop points parts.0) (ends_in loops parts.1)

-- ---- how far a point is in a direction

abbrev pub along : (α β x y : ℤ) → ℤ
along α β x y = α *ℤ x +ℤ β *ℤ y

-- a point of an edge is at least as far as its ends
pub edge_beyond : (α β c : ℤ) (a b : GridPoint) (u : RationalPoint) → c ≤ℤ along α β a.x a.y → c ≤ℤ along α β b.x b.y → IsBetween a b u → (u.over *ℤ c) ≤ℤ along α β u.x u.y
edge_beyond α β c a b u at_a at_b on =
    let k = on.at.k in
    let n = on.at.n in
    let o = u.over in
    let positive = u.positive in
    let start = on.at.start in
    let finish = on.at.finish in
    let some = on.at.some in
    let A = along α β a.x a.y in
    let B = along α β b.x b.y in
    let rest = (n -ℤ k) *ℤ (A -ℤ c) +ℤ k *ℤ (B -ℤ c) in
    let p = times_nonneg (n -ℤ k) (A -ℤ c) (omega (arith, ints)) (omega (arith, ints)) in
    let q = times_nonneg k (B -ℤ c) start (omega (arith, ints)) in
    let r = times_nonneg o rest (omega (arith, ints)) (omega (arith, ints)) in
    let split : n *ℤ along α β u.x u.y ≡ α *ℤ (o *ℤ (n *ℤ a.x +ℤ k *ℤ (b.x -ℤ a.x))) +ℤ β *ℤ (o *ℤ (n *ℤ a.y +ℤ k *ℤ (b.y -ℤ a.y))) =
    ring (α ∷ β ∷ n ∷ u.x ∷ u.y ∷ []) (V 2 ⊗ (V 0 ⊗ V 3 ⊕ V 1 ⊗ V 4)) (V 0 ⊗ (V 2 ⊗ V 3) ⊕ V 1 ⊗ (V 2 ⊗ V 4)) tt
    ∙ ap₂ (λ x y. α *ℤ x +ℤ β *ℤ y) on.across on.up in
    let fa = V 0 ⊗ V 5 ⊕ V 1 ⊗ V 6 in
    let fb = V 0 ⊗ V 7 ⊕ V 1 ⊗ V 8 in
    let sum = ring (α ∷ β ∷ n ∷ k ∷ o ∷ a.x ∷ a.y ∷ b.x ∷ b.y ∷ c ∷ [])
    (V 0 ⊗ (V 4 ⊗ (V 2 ⊗ V 5 ⊕ V 3 ⊗ (V 7 ⊖ V 5))) ⊕ V 1 ⊗ (V 4 ⊗ (V 2 ⊗ V 6 ⊕ V 3 ⊗ (V 8 ⊖ V 6))))
    (V 2 ⊗ (V 4 ⊗ V 9) ⊕ V 4 ⊗ ((V 2 ⊖ V 3) ⊗ (fa ⊖ V 9) ⊕ V 3 ⊗ (fb ⊖ V 9))) tt in
    cancel_le n (o *ℤ c) (along α β u.x u.y) (omega (arith, ints)) (omega (arith, ints))

-- beyond its start, a path that leads away is not so far
path_before : (α β c : ℤ) (w z u : RationalPoint) → along α β w.x w.y ≤ℤ (w.over *ℤ c) → along α β z.x z.y <ℤ (z.over *ℤ c) → (on : IsOnPath w z u) → pos 0 <ℤ on.at.k
    → along α β u.x u.y <ℤ (u.over *ℤ c)
path_before α β c w z u at_w at_z on past =
    let k = on.at.k in
    let n = on.at.n in
    let finish = on.at.finish in
    let o = u.over in
    let m = w.over in
    let q = z.over in
    let o_some = u.positive in
    let m_some = w.positive in
    let q_some = z.positive in
    let A = m *ℤ c -ℤ along α β w.x w.y in
    let B = q *ℤ c -ℤ along α β z.x z.y in
    let M = n *ℤ (m *ℤ q) in
    let first = times_nonneg (n -ℤ k) (q *ℤ A) (omega (arith, ints)) (times_nonneg q A (omega (arith, ints)) (omega (arith, ints))) in
    let second = times_pos k (m *ℤ B) past (times_pos m B (omega (arith, ints)) (omega (arith, ints))) in
    let rest = times_pos o ((n -ℤ k) *ℤ (q *ℤ A) +ℤ k *ℤ (m *ℤ B)) (omega (arith, ints)) (omega (arith, ints)) in
    let split : M *ℤ along α β u.x u.y ≡ α *ℤ (o *ℤ ((n -ℤ k) *ℤ (q *ℤ w.x) +ℤ k *ℤ (m *ℤ z.x))) +ℤ β *ℤ (o *ℤ ((n -ℤ k) *ℤ (q *ℤ w.y) +ℤ k *ℤ (m *ℤ z.y))) =
    ring (α ∷ β ∷ M ∷ u.x ∷ u.y ∷ []) (V 2 ⊗ (V 0 ⊗ V 3 ⊕ V 1 ⊗ V 4)) (V 0 ⊗ (V 2 ⊗ V 3) ⊕ V 1 ⊗ (V 2 ⊗ V 4)) tt
    ∙ ap₂ (λ x y. α *ℤ x +ℤ β *ℤ y) on.across on.up in
    let xs = α ∷ β ∷ n ∷ k ∷ o ∷ m ∷ q ∷ w.x ∷ w.y ∷ z.x ∷ z.y ∷ c ∷ [] in
    let fw = V 0 ⊗ V 7 ⊕ V 1 ⊗ V 8 in
    let fz = V 0 ⊗ V 9 ⊕ V 1 ⊗ V 10 in
    let sum = ring xs
    ((V 2 ⊗ (V 5 ⊗ V 6)) ⊗ (V 4 ⊗ V 11))
    (V 0 ⊗ (V 4 ⊗ ((V 2 ⊖ V 3) ⊗ (V 6 ⊗ V 7) ⊕ V 3 ⊗ (V 5 ⊗ V 9))) ⊕ V 1 ⊗ (V 4 ⊗ ((V 2 ⊖ V 3) ⊗ (V 6 ⊗ V 8) ⊕ V 3 ⊗ (V 5 ⊗ V 10)))
    ⊕ V 4 ⊗ ((V 2 ⊖ V 3) ⊗ (V 6 ⊗ (V 5 ⊗ V 11 ⊖ fw)) ⊕ V 3 ⊗ (V 5 ⊗ (V 6 ⊗ V 11 ⊖ fz)))) tt in
    cancel_lt M (along α β u.x u.y) (o *ℤ c) (times_nonneg n (m *ℤ q) (omega (arith, ints)) (times_nonneg m q (omega (arith, ints)) (omega (arith, ints)))) (omega (arith, ints))

-- ---- the start of a path, written otherwise

same_start : (n k m q o x u z : ℤ) → pos 0 <ℤ n → pos 0 <ℤ q → k ≡ pos 0 → (n *ℤ (m *ℤ q)) *ℤ u ≡ o *ℤ ((n -ℤ k) *ℤ (q *ℤ x) +ℤ k *ℤ (m *ℤ z)) → m *ℤ u ≡ o *ℤ x
same_start n k m q o x u z n_some q_some none on =
    cancel_same (n *ℤ q) (m *ℤ u) (o *ℤ x) (times_pos n q n_some q_some)
    (ring (n ∷ q ∷ m ∷ u ∷ []) ((V 0 ⊗ V 1) ⊗ (V 2 ⊗ V 3)) ((V 0 ⊗ (V 2 ⊗ V 1)) ⊗ V 3) tt
    ∙ on
    ∙ ap (λ k. o *ℤ ((n -ℤ k) *ℤ (q *ℤ x) +ℤ k *ℤ (m *ℤ z))) none
    ∙ ring (n ∷ q ∷ m ∷ o ∷ x ∷ z ∷ []) (V 3 ⊗ ((V 0 ⊖ K (pos 0)) ⊗ (V 1 ⊗ V 4) ⊕ K (pos 0) ⊗ (V 2 ⊗ V 5))) ((V 0 ⊗ V 1) ⊗ (V 3 ⊗ V 4)) tt)

moved : (n m o x u p : ℤ) → pos 0 <ℤ o → m *ℤ u ≡ o *ℤ x → n *ℤ u ≡ o *ℤ p → n *ℤ x ≡ m *ℤ p
moved n m o x u p some same on =
    cancel_same o (n *ℤ x) (m *ℤ p) some
    (ring (n ∷ o ∷ x ∷ []) (V 1 ⊗ (V 0 ⊗ V 2)) (V 0 ⊗ (V 1 ⊗ V 2)) tt
    ∙ ap (λ z. n *ℤ z) (sym same)
    ∙ ring (n ∷ m ∷ u ∷ []) (V 0 ⊗ (V 1 ⊗ V 2)) (V 1 ⊗ (V 0 ⊗ V 2)) tt
    ∙ ap (λ z. m *ℤ z) on
    ∙ ring (m ∷ o ∷ p ∷ []) (V 0 ⊗ (V 1 ⊗ V 2)) (V 1 ⊗ (V 0 ⊗ V 2)) tt)

start_between : (a b : GridPoint) (w z u : RationalPoint) (on : IsOnPath w z u) → on.at.k ≡ pos 0 → IsBetween a b u → IsBetween a b w
start_between a b w z u on none between =
    let n_some = on.at.some in
    let q_some = z.positive in
    let o_some = u.positive in
    record {
      at = between.at;
      across = moved _ w.over u.over _ _ _ (omega (arith, ints)) (same_start on.at.n on.at.k w.over z.over u.over w.x u.x z.x (omega (arith, ints)) (omega (arith, ints)) none on.across) between.across;
      up = moved _ w.over u.over _ _ _ (omega (arith, ints)) (same_start on.at.n on.at.k w.over z.over u.over w.y u.y z.y (omega (arith, ints)) (omega (arith, ints)) none on.up) between.up;
    }

-- ---- a point on or beyond a side

-- the ends of the edge are at least so far
record AreBeyond (α β c : ℤ) (e : Seg) : Type 0 where
  a : c ≤ℤ along α β e.a.x e.a.y
  b : c ≤ℤ along α β e.b.x e.b.y

not_inside : (α β c : ℤ) (loops : List (List GridPoint)) (w z : RationalPoint) → All (AreBeyond α β c) (edges_of loops)
    → along α β w.x w.y ≤ℤ (w.over *ℤ c) → along α β z.x z.y <ℤ (z.over *ℤ c) → ¬ IsInside (edges_of loops) z → ¬ IsInside (edges_of loops) w
not_inside α β c loops w z beyond at_w at_z far inside = far ((parity loops w z free).0 inside)
  where
    free : IsPathFree (edges_of loops) w z
    free u on outline =
        let e = outline.1 in
        let ends : AreBeyond α β c e = subst (AreBeyond α β c) outline.3 (beyond outline.0 e outline.2) in
        let start = on.at.start in
        by_lt_z (pos 0) on.at.k
        (λ past.
        let before = path_before α β c w z u at_w at_z on past in
        let there = edge_beyond α β c e.a e.b u ends.a ends.b outline.4 in
        absurd (omega (arith, ints)))
        (λ none. inside.off_outline (outline.0, e, outline.2, outline.3, start_between e.a e.b w z u on (omega (arith, ints)) outline.4))

-- ---- rows above or below all points

-- both ends of the edge are at or below the row, or neither is
abbrev HasNoRow : ℤ → Seg → Type 0
HasNoRow y e = int_le e.a.y y ≡ int_le e.b.y y

none_counted : (p : GridPoint) (edges : List Seg) → All (HasNoRow p.y) edges → count_by (is_counted (rational p)) edges ≡ 0
none_counted p [] all = refl
none_counted p (e ∷ edges) all =
    let P = HasNoRow p.y in
    sum_by-cons (λ e. if is_counted (rational p) e then 1 else 0) e edges
    ∙ ap₂ (λ (t : Bool) (n : ℕ). (if t then 1 else 0) + n) (sym (beside_row e.a e.b p (All-head P e edges all))) (none_counted p edges (All-tail P e edges all))

outside_of_rows : (p : GridPoint) (edges : List Seg) → All (HasNoRow p.y) edges → ¬ IsInside edges (rational p)
outside_of_rows p edges all inside = let none = none_counted p edges all in let odd = inside.odd in absurd (omega arith)

module _ (loops : List (List GridPoint)) (low high : GridPoint) (all : All (IsInBox low high) (points_of loops)) where
  above : (x : ℤ) → ¬ IsInside (edges_of loops) (rational (record { x = x; y = high.y +ℤ pos 1 }))
  above x = outside_of_rows (record { x = x; y = high.y +ℤ pos 1 }) (edges_of loops)
      (All-weaker (HasEndsIn low high) (HasNoRow (high.y +ℤ pos 1)) (λ e ends.
      let a = ends.0.up.high in
      let b = ends.1.up.high in
      sym (true_is_le e.a.y (high.y +ℤ pos 1) (omega (arith, ints))) ∙ true_is_le e.b.y (high.y +ℤ pos 1) (omega (arith, ints))) (edges_of loops) (ends_in low high loops all))

  below : (x : ℤ) → ¬ IsInside (edges_of loops) (rational (record { x = x; y = low.y -ℤ pos 1 }))
  below x = outside_of_rows (record { x = x; y = low.y -ℤ pos 1 }) (edges_of loops)
      (All-weaker (HasEndsIn low high) (HasNoRow (low.y -ℤ pos 1)) (λ e ends.
      let a = ends.0.up.low in
      let b = ends.1.up.low in
      let first : int_le e.a.y (low.y -ℤ pos 1) ≡ false = grind (arith, ints) in
      let second : int_le e.b.y (low.y -ℤ pos 1) ≡ false = grind (arith, ints) in
      first ∙ sym second) (edges_of loops) (ends_in low high loops all))

  sides : (α β c : ℤ) → ((p : GridPoint) → IsInBox low high p → c ≤ℤ along α β p.x p.y) → All (AreBeyond α β c) (edges_of loops)
  sides α β c far = All-weaker (HasEndsIn low high) (AreBeyond α β c) (λ e ends. record { a = far e.a ends.0; b = far e.b ends.1 }) (edges_of loops) (ends_in low high loops all)

pub inside_in_box : InsideBoxLaw
inside_in_box loops low high w all inside =
    let turned_x = times_neg w.over high.x in
    let turned_y = times_neg w.over high.y in
    record {
      left = by_lt_z (w.over *ℤ low.x) w.x (λ l. l) (λ beyond. absurd
          (not_inside (pos 1) (pos 0) low.x loops w (rational (record { x = low.x -ℤ pos 1; y = high.y +ℤ pos 1 }))
          (sides loops low high all (pos 1) (pos 0) low.x (λ p is. let side = is.across.low in omega (arith, ints)))
          (omega (arith, ints)) (omega (arith, ints)) (above loops low high all (low.x -ℤ pos 1)) inside));
      right = by_lt_z w.x (w.over *ℤ high.x) (λ l. l) (λ beyond. absurd
          (not_inside (neg_ℤ (pos 1)) (pos 0) (neg_ℤ high.x) loops w (rational (record { x = high.x +ℤ pos 1; y = high.y +ℤ pos 1 }))
          (sides loops low high all (neg_ℤ (pos 1)) (pos 0) (neg_ℤ high.x) (λ p is. let side = is.across.high in omega (arith, ints)))
          (omega (arith, ints)) (omega (arith, ints)) (above loops low high all (high.x +ℤ pos 1)) inside));
      bottom = by_lt_z (w.over *ℤ low.y) w.y (λ l. l) (λ beyond. absurd
          (not_inside (pos 0) (pos 1) low.y loops w (rational (record { x = low.x; y = low.y -ℤ pos 1 }))
          (sides loops low high all (pos 0) (pos 1) low.y (λ p is. let side = is.up.low in omega (arith, ints)))
          (omega (arith, ints)) (omega (arith, ints)) (below loops low high all low.x) inside));
      top = by_lt_z w.y (w.over *ℤ high.y) (λ l. l) (λ beyond. absurd
          (not_inside (pos 0) (neg_ℤ (pos 1)) (neg_ℤ high.y) loops w (rational (record { x = low.x; y = high.y +ℤ pos 1 }))
          (sides loops low high all (pos 0) (neg_ℤ (pos 1)) (neg_ℤ high.y) (λ p is. let side = is.up.high in omega (arith, ints)))
          (omega (arith, ints)) (omega (arith, ints)) (above loops low high all low.x) inside));
    }
