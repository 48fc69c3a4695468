-- A segment between grid points that keeps off two neighbouring grid points keeps off all points between them. In numbers: the neighbours
-- are (0, 0) and (1, 0) here, the segment goes from (ax, ay) to (bx, by), and it keeps off by r / d, which is at least 1.
use Rattle.std.proofs.Common.{◌≡◌, ℤ, pos, neg_ℤ, ◌+ℤ◌, ◌-ℤ◌, ◌*ℤ◌, ◌≤ℤ◌, ◌<ℤ◌, [], ◌∷◌, arith, ap, ap₂, subst, sym, ◌∙◌}
use Rattle.std.proofs.lemmas.Int.{ints, by_lt_z}
use Rattle.integer_algebra.proofs.Order.{cancel_le, root_le, square_le, square_lt, square_nonneg, times_le, times_lt, times_negative, times_nonneg, times_nonpos}
use Rattle.integer_algebra.proofs.Ring.{ring, V, K, M, ◌⊕◌, ◌⊖◌, ◌⊗◌}
use Rattle.plane_exact.specs.Distance.{square}

-- the number at j / m of the way from a to b, times m
abbrev pub part : (j m a b : ℤ) → ℤ
part j m a b = m *ℤ a +ℤ j *ℤ (b -ℤ a)

-- no point of the segment is nearer to (c, 0) than r / d
abbrev pub KeepsOff : (r d c ax ay bx by : ℤ) → Type 0
KeepsOff r d c ax ay bx by =
    (j m : ℤ) → pos 0 ≤ℤ j → j ≤ℤ m → pos 1 ≤ℤ m
    → (square r *ℤ square m) ≤ℤ ((square (part j m ax bx -ℤ m *ℤ c) +ℤ square (part j m ay by)) *ℤ square d)

-- the point of the segment at j / m of its way is nearer to (k / n, 0) than r / d
abbrev pub IsNearBetween : (r d k n j m ax ay bx by : ℤ) → Type 0
IsNearBetween r d k n j m ax ay bx by =
    ((square (n *ℤ part j m ax bx -ℤ k *ℤ m) +ℤ square (n *ℤ part j m ay by)) *ℤ square d) <ℤ (square r *ℤ square (n *ℤ m))

-- ---- the segment turned round, and mirrored

part_turned : (j m a b : ℤ) → part (m -ℤ j) m a b ≡ part j m b a
part_turned j m a b = ring (j ∷ m ∷ a ∷ b ∷ []) (V 1 ⊗ V 2 ⊕ (V 1 ⊖ V 0) ⊗ (V 3 ⊖ V 2)) (V 1 ⊗ V 3 ⊕ V 0 ⊗ (V 2 ⊖ V 3)) tt

part_mirrored : (j m a b : ℤ) → part j m (neg_ℤ a) (neg_ℤ b) ≡ neg_ℤ (part j m a b)
part_mirrored j m a b = ring (j ∷ m ∷ a ∷ b ∷ []) (V 1 ⊗ M (V 2) ⊕ V 0 ⊗ (M (V 3) ⊖ M (V 2))) (M (V 1 ⊗ V 2 ⊕ V 0 ⊗ (V 3 ⊖ V 2))) tt

square_mirrored : (a : ℤ) → square a ≡ square (neg_ℤ a)
square_mirrored a = ring (a ∷ []) (V 0 ⊗ V 0) (M (V 0) ⊗ M (V 0)) tt

module _ (r d c ax ay bx by : ℤ) (keeps : KeepsOff r d c ax ay bx by) where
  turned : KeepsOff r d c bx by ax ay
  turned j m start finish some =
      ap₂-le (part_turned j m ax bx) (part_turned j m ay by) (keeps (m -ℤ j) m (omega (arith, ints)) (omega (arith, ints)) some)
    where
      ap₂-le : {x x' y y' : ℤ} → x ≡ x' → y ≡ y' → (square r *ℤ square m) ≤ℤ ((square (x -ℤ m *ℤ c) +ℤ square y) *ℤ square d)
          → (square r *ℤ square m) ≤ℤ ((square (x' -ℤ m *ℤ c) +ℤ square y') *ℤ square d)
      ap₂-le e f far = subst (λ z. (square r *ℤ square m) ≤ℤ z) (ap₂ (λ x y. (square (x -ℤ m *ℤ c) +ℤ square y) *ℤ square d) e f) far

  mirrored : KeepsOff r d c ax (neg_ℤ ay) bx (neg_ℤ by)
  mirrored j m start finish some =
      subst (λ y. (square r *ℤ square m) ≤ℤ ((square (part j m ax bx -ℤ m *ℤ c) +ℤ y) *ℤ square d))
      (square_mirrored (part j m ay by) ∙ ap square (sym (part_mirrored j m ay by))) (keeps j m start finish some)

  -- where the segment crosses the line through (c, 0), times the length of its shadow
  crossing : ax ≤ℤ c → c ≤ℤ bx → ax <ℤ bx → square (r *ℤ (bx -ℤ ax)) ≤ℤ square (d *ℤ part (c -ℤ ax) (bx -ℤ ax) ay by)
  crossing from to some =
      let D = bx -ℤ ax in
      let Y = part (c -ℤ ax) D ay by in
      let far = keeps (c -ℤ ax) D (omega (arith, ints)) (omega (arith, ints)) (omega (arith, ints)) in
      let on = ring (ax ∷ bx ∷ c ∷ Y ∷ d ∷ [])
      ((((V 1 ⊖ V 0) ⊗ V 0 ⊕ (V 2 ⊖ V 0) ⊗ (V 1 ⊖ V 0) ⊖ (V 1 ⊖ V 0) ⊗ V 2) ⊗ ((V 1 ⊖ V 0) ⊗ V 0 ⊕ (V 2 ⊖ V 0) ⊗ (V 1 ⊖ V 0) ⊖ (V 1 ⊖ V 0) ⊗ V 2) ⊕ V 3 ⊗ V 3) ⊗ (V 4 ⊗ V 4))
      ((V 4 ⊗ V 3) ⊗ (V 4 ⊗ V 3)) tt in
      let left = ring (r ∷ D ∷ []) ((V 0 ⊗ V 0) ⊗ (V 1 ⊗ V 1)) ((V 0 ⊗ V 1) ⊗ (V 0 ⊗ V 1)) tt in
      omega (arith, ints)

-- ---- a point between the lines through the neighbours

module _ (r d k n j m : ℤ) (d_some : pos 1 ≤ℤ d) (wide : d ≤ℤ r) (k_start : pos 0 ≤ℤ k) (k_finish : k ≤ℤ n) (n_some : pos 1 ≤ℤ n)
    (j_start : pos 0 ≤ℤ j) (j_finish : j ≤ℤ m) (m_some : pos 1 ≤ℤ m) where
  module _ (ax ay bx by : ℤ) (first : KeepsOff r d (pos 0) ax ay bx by) (last : KeepsOff r d (pos 1) ax ay bx by)
      (near : IsNearBetween r d k n j m ax ay bx by) where
    abbrev X : ℤ
    X = part j m ax bx

    abbrev Y : ℤ
    Y = part j m ay by

    rm_sign : pos 0 ≤ℤ (r *ℤ m)
    rm_sign = times_nonneg r m (omega (arith, ints)) (omega (arith, ints))

    -- the point isn't that far from the line of the neighbours
    low : ¬ ((r *ℤ m) ≤ℤ (d *ℤ Y))
    low high =
        let more = times_le (n *ℤ n) _ _ (square_nonneg n) (square_le (r *ℤ m) (d *ℤ Y) rm_sign high) in
        let across = n *ℤ X -ℤ k *ℤ m in
        let some = square_nonneg (across *ℤ d) in
        let left = ring (across ∷ n ∷ Y ∷ d ∷ []) ((V 0 ⊗ V 0 ⊕ (V 1 ⊗ V 2) ⊗ (V 1 ⊗ V 2)) ⊗ (V 3 ⊗ V 3))
        ((V 0 ⊗ V 3) ⊗ (V 0 ⊗ V 3) ⊕ (V 1 ⊗ V 1) ⊗ ((V 3 ⊗ V 2) ⊗ (V 3 ⊗ V 2))) tt in
        let right = ring (r ∷ n ∷ m ∷ []) ((V 0 ⊗ V 0) ⊗ ((V 1 ⊗ V 2) ⊗ (V 1 ⊗ V 2))) ((V 1 ⊗ V 1) ⊗ ((V 0 ⊗ V 2) ⊗ (V 0 ⊗ V 2))) tt in
        omega (arith, ints)

    -- nor is it beyond the one neighbour or the other
    beyond : (c : ℤ) → (square r *ℤ square m) ≤ℤ ((square (X -ℤ m *ℤ c) +ℤ square Y) *ℤ square d)
        → ¬ (square (n *ℤ (X -ℤ m *ℤ c)) ≤ℤ square (n *ℤ X -ℤ k *ℤ m))
    beyond c far farther =
        let U = X -ℤ m *ℤ c in
        let W = n *ℤ X -ℤ k *ℤ m in
        let more = times_le (n *ℤ n) _ _ (square_nonneg n) far in
        let grown = times_le (d *ℤ d) _ _ (square_nonneg d) farther in
        let left = ring (W ∷ n ∷ Y ∷ d ∷ []) ((V 0 ⊗ V 0 ⊕ (V 1 ⊗ V 2) ⊗ (V 1 ⊗ V 2)) ⊗ (V 3 ⊗ V 3))
        ((V 3 ⊗ V 3) ⊗ (V 0 ⊗ V 0) ⊕ (V 1 ⊗ V 1) ⊗ ((V 2 ⊗ V 2) ⊗ (V 3 ⊗ V 3))) tt in
        let mid = ring (U ∷ n ∷ Y ∷ d ∷ []) ((V 1 ⊗ V 1) ⊗ ((V 0 ⊗ V 0 ⊕ V 2 ⊗ V 2) ⊗ (V 3 ⊗ V 3)))
        ((V 3 ⊗ V 3) ⊗ ((V 1 ⊗ V 0) ⊗ (V 1 ⊗ V 0)) ⊕ (V 1 ⊗ V 1) ⊗ ((V 2 ⊗ V 2) ⊗ (V 3 ⊗ V 3))) tt in
        let right = ring (r ∷ n ∷ m ∷ []) ((V 0 ⊗ V 0) ⊗ ((V 1 ⊗ V 2) ⊗ (V 1 ⊗ V 2))) ((V 1 ⊗ V 1) ⊗ ((V 0 ⊗ V 0) ⊗ (V 2 ⊗ V 2))) tt in
        omega (arith, ints)

    not_before : pos 0 <ℤ X
    not_before = by_lt_z (pos 0) X (λ l. l) (λ l.
        let p = times_nonneg k m k_start (omega (arith, ints)) in
        let q = times_nonneg n (pos 0 -ℤ X) (omega (arith, ints)) (omega (arith, ints)) in
        let U = n *ℤ (X -ℤ m *ℤ pos 0) in
        let W = n *ℤ X -ℤ k *ℤ m in
        let e = ring (n ∷ X ∷ m ∷ []) (V 0 ⊗ (V 1 ⊖ V 2 ⊗ K (pos 0))) (K (pos 0) ⊖ V 0 ⊗ (K (pos 0) ⊖ V 1)) tt in
        let f = ring (n ∷ X ∷ []) (V 0 ⊗ V 1) (K (pos 0) ⊖ V 0 ⊗ (K (pos 0) ⊖ V 1)) tt in
        let more = square_le (neg_ℤ U) (neg_ℤ W) (omega (arith, ints)) (omega (arith, ints)) in
        let u = square_mirrored U in
        let w = square_mirrored W in
        absurd (beyond (pos 0) (first j m j_start j_finish m_some) (omega (arith, ints))))

    not_behind : X <ℤ m
    not_behind = by_lt_z X m (λ l. l) (λ l.
        let p = times_nonneg (n -ℤ k) m (omega (arith, ints)) (omega (arith, ints)) in
        let q = times_nonneg n (X -ℤ m) (omega (arith, ints)) (omega (arith, ints)) in
        let e = ring (n ∷ X ∷ m ∷ []) (V 0 ⊗ (V 1 ⊖ V 2 ⊗ K (pos 1))) (V 0 ⊗ (V 1 ⊖ V 2)) tt in
        let f = ring (n ∷ X ∷ m ∷ k ∷ []) (V 0 ⊗ V 1 ⊖ V 3 ⊗ V 2) (V 0 ⊗ (V 1 ⊖ V 2) ⊕ (V 0 ⊖ V 3) ⊗ V 2) tt in
        absurd (beyond (pos 1) (last j m j_start j_finish m_some)
        (square_le (n *ℤ (X -ℤ m *ℤ pos 1)) (n *ℤ X -ℤ k *ℤ m) (omega (arith, ints)) (omega (arith, ints)))))

    module _ (from : ax ≤ℤ pos 0) (to : pos 1 ≤ℤ bx) where
      abbrev D : ℤ
      D = bx -ℤ ax

      -- where the segment crosses the lines through the neighbours, times D
      abbrev C : ℤ
      C = part (pos 0 -ℤ ax) D ay by

      abbrev E : ℤ
      E = part (pos 1 -ℤ ax) D ay by

      rd_sign : pos 0 ≤ℤ (r *ℤ D)
      rd_sign = times_nonneg r D (omega (arith, ints)) (omega (arith, ints))

      far_first : pos 0 ≤ℤ C → (r *ℤ D) ≤ℤ (d *ℤ C)
      far_first above =
          root_le (r *ℤ D) (d *ℤ C) (crossing r d (pos 0) ax ay bx by first (omega (arith, ints)) (omega (arith, ints)) (omega (arith, ints)))
          (times_nonneg d C (omega (arith, ints)) above)

      far_last : pos 0 ≤ℤ E → (r *ℤ D) ≤ℤ (d *ℤ E)
      far_last above =
          root_le (r *ℤ D) (d *ℤ E) (crossing r d (pos 1) ax ay bx by last (omega (arith, ints)) (omega (arith, ints)) (omega (arith, ints)))
          (times_nonneg d E (omega (arith, ints)) above)

      -- both on one side: then all between them is as far
      one_side : pos 0 ≤ℤ C → pos 0 ≤ℤ E → ⊥
      one_side above higher =
          let l = not_before in
          let g = not_behind in
          let p = times_le (m -ℤ X) _ _ (omega (arith, ints)) (far_first above) in
          let q = times_le X _ _ (omega (arith, ints)) (far_last higher) in
          let mixed = ring (ax ∷ ay ∷ bx ∷ by ∷ j ∷ m ∷ d ∷ [])
          ((V 5 ⊖ (V 5 ⊗ V 0 ⊕ V 4 ⊗ (V 2 ⊖ V 0))) ⊗ (V 6 ⊗ ((V 2 ⊖ V 0) ⊗ V 1 ⊕ (K (pos 0) ⊖ V 0) ⊗ (V 3 ⊖ V 1)))
          ⊕ (V 5 ⊗ V 0 ⊕ V 4 ⊗ (V 2 ⊖ V 0)) ⊗ (V 6 ⊗ ((V 2 ⊖ V 0) ⊗ V 1 ⊕ (K (pos 1) ⊖ V 0) ⊗ (V 3 ⊖ V 1))))
          ((V 2 ⊖ V 0) ⊗ (V 6 ⊗ (V 5 ⊗ V 1 ⊕ V 4 ⊗ (V 3 ⊖ V 1)))) tt in
          let whole = ring (X ∷ m ∷ r ∷ D ∷ []) ((V 1 ⊖ V 0) ⊗ (V 2 ⊗ V 3) ⊕ V 0 ⊗ (V 2 ⊗ V 3)) (V 3 ⊗ (V 2 ⊗ V 1)) tt in
          low (cancel_le D (r *ℤ m) (d *ℤ Y) (omega (arith, ints)) (omega (arith, ints)))

      -- one on each side: then the segment passes between the neighbours, nearer than 1 to the first
      two_sides : pos 0 ≤ℤ C → E <ℤ pos 0 → ⊥
      two_sides above under =
          let G = ay -ℤ by in
          let fall = ring (ax ∷ ay ∷ bx ∷ by ∷ []) (((V 2 ⊖ V 0) ⊗ V 1 ⊕ (K (pos 0) ⊖ V 0) ⊗ (V 3 ⊖ V 1)) ⊖ ((V 2 ⊖ V 0) ⊗ V 1 ⊕ (K (pos 1) ⊖ V 0) ⊗ (V 3 ⊖ V 1))) (V 1 ⊖ V 3) tt in
          let up = ring (ax ∷ ay ∷ bx ∷ by ∷ []) ((V 2 ⊖ V 0) ⊗ V 1 ⊕ (K (pos 0) ⊖ V 0) ⊗ (V 3 ⊖ V 1)) (V 2 ⊗ V 1 ⊕ (K (pos 0) ⊖ V 0) ⊗ V 3) tt in
          let down = ring (ax ∷ ay ∷ bx ∷ by ∷ []) ((V 2 ⊖ V 0) ⊗ V 1 ⊕ (K (pos 1) ⊖ V 0) ⊗ (V 3 ⊖ V 1)) ((V 2 ⊖ K (pos 1)) ⊗ V 1 ⊕ (K (pos 1) ⊖ V 0) ⊗ V 3) tt in
          let ay_sign : pos 0 ≤ℤ ay = by_lt_z ay (pos 0)
          (λ l. let p = times_negative bx ay (omega (arith, ints)) l in let q = times_nonpos (pos 0 -ℤ ax) by (omega (arith, ints)) (omega (arith, ints)) in absurd (omega (arith, ints)))
          (λ l. l) in
          let by_sign : by ≤ℤ pos 0 = by_lt_z (pos 0) by
          (λ l. let p = times_nonneg (bx -ℤ pos 1) ay (omega (arith, ints)) ay_sign in let q = times_nonneg (pos 1 -ℤ ax) by (omega (arith, ints)) (omega (arith, ints)) in absurd (omega (arith, ints)))
          (λ l. l) in
          let far = first ay G ay_sign (omega (arith, ints)) (omega (arith, ints)) in
          let on = ring (ax ∷ ay ∷ bx ∷ by ∷ d ∷ [])
          ((((V 1 ⊖ V 3) ⊗ V 0 ⊕ V 1 ⊗ (V 2 ⊖ V 0) ⊖ (V 1 ⊖ V 3) ⊗ K (pos 0)) ⊗ ((V 1 ⊖ V 3) ⊗ V 0 ⊕ V 1 ⊗ (V 2 ⊖ V 0) ⊖ (V 1 ⊖ V 3) ⊗ K (pos 0))
          ⊕ ((V 1 ⊖ V 3) ⊗ V 1 ⊕ V 1 ⊗ (V 3 ⊖ V 1)) ⊗ ((V 1 ⊖ V 3) ⊗ V 1 ⊕ V 1 ⊗ (V 3 ⊖ V 1))) ⊗ (V 4 ⊗ V 4))
          ((V 4 ⊗ ((V 2 ⊖ V 0) ⊗ V 1 ⊕ (K (pos 0) ⊖ V 0) ⊗ (V 3 ⊖ V 1))) ⊗ (V 4 ⊗ ((V 2 ⊖ V 0) ⊗ V 1 ⊕ (K (pos 0) ⊖ V 0) ⊗ (V 3 ⊖ V 1)))) tt in
          let whole = ring (r ∷ G ∷ []) ((V 0 ⊗ V 0) ⊗ (V 1 ⊗ V 1)) ((V 1 ⊗ V 0) ⊗ (V 1 ⊗ V 0)) tt in
          let less = times_lt d C G (omega (arith, ints)) (omega (arith, ints)) in
          let more = times_le G d r (omega (arith, ints)) wide in
          let turn = ring (d ∷ G ∷ []) (V 0 ⊗ V 1) (V 1 ⊗ V 0) tt in
          let short = square_lt (d *ℤ C) (G *ℤ r) (times_nonneg d C (omega (arith, ints)) above) (omega (arith, ints)) in
          omega (arith, ints)

      above_first : pos 0 ≤ℤ C → ⊥
      above_first above = by_lt_z E (pos 0) (two_sides above) (one_side above)

-- ---- any segment between grid points

near_turned : (r d k n j m ax ay bx by : ℤ) → IsNearBetween r d k n j m ax ay bx by → IsNearBetween r d k n (m -ℤ j) m bx by ax ay
near_turned r d k n j m ax ay bx by near =
    subst (λ z. z <ℤ (square r *ℤ square (n *ℤ m)))
    (ap₂ (λ x y. (square (n *ℤ x -ℤ k *ℤ m) +ℤ square (n *ℤ y)) *ℤ square d) (sym (part_turned j m bx ax)) (sym (part_turned j m by ay))) near

near_mirrored : (r d k n j m ax ay bx by : ℤ) → IsNearBetween r d k n j m ax ay bx by → IsNearBetween r d k n j m ax (neg_ℤ ay) bx (neg_ℤ by)
near_mirrored r d k n j m ax ay bx by near =
    let Y = part j m ay by in
    let same = ring (n ∷ Y ∷ []) ((V 0 ⊗ V 1) ⊗ (V 0 ⊗ V 1)) ((V 0 ⊗ M (V 1)) ⊗ (V 0 ⊗ M (V 1))) tt in
    subst (λ y. ((square (n *ℤ part j m ax bx -ℤ k *ℤ m) +ℤ y) *ℤ square d) <ℤ (square r *ℤ square (n *ℤ m)))
    (same ∙ ap (λ y. square (n *ℤ y)) (sym (part_mirrored j m ay by))) near

module _ (r d k n : ℤ) (d_some : pos 1 ≤ℤ d) (wide : d ≤ℤ r) (k_start : pos 0 ≤ℤ k) (k_finish : k ≤ℤ n) (n_some : pos 1 ≤ℤ n) where
  forward : (j m : ℤ) → pos 0 ≤ℤ j → j ≤ℤ m → pos 1 ≤ℤ m → (ax ay bx by : ℤ) → KeepsOff r d (pos 0) ax ay bx by → KeepsOff r d (pos 1) ax ay bx by
      → IsNearBetween r d k n j m ax ay bx by → ax ≤ℤ pos 0 → pos 1 ≤ℤ bx → ⊥
  forward j m start finish some ax ay bx by first last near from to =
      let C = part (pos 0 -ℤ ax) (bx -ℤ ax) ay by in
      by_lt_z C (pos 0)
      (λ under.
      let turn = part_mirrored (pos 0 -ℤ ax) (bx -ℤ ax) ay by in
      above_first r d k n j m d_some wide k_start k_finish n_some start finish some ax (neg_ℤ ay) bx (neg_ℤ by)
      (mirrored r d (pos 0) ax ay bx by first) (mirrored r d (pos 1) ax ay bx by last) (near_mirrored r d k n j m ax ay bx by near) from to (omega (arith, ints)))
      (above_first r d k n j m d_some wide k_start k_finish n_some start finish some ax ay bx by first last near from to)

  pub none_between : (j m : ℤ) → pos 0 ≤ℤ j → j ≤ℤ m → pos 1 ≤ℤ m → (ax ay bx by : ℤ) → KeepsOff r d (pos 0) ax ay bx by → KeepsOff r d (pos 1) ax ay bx by
      → ¬ IsNearBetween r d k n j m ax ay bx by
  none_between j m start finish some ax ay bx by first last near =
      let X = part j m ax bx in
      let before = not_before r d k n j m d_some wide k_start k_finish n_some start finish some ax ay bx by first last near in
      let behind = not_behind r d k n j m d_some wide k_start k_finish n_some start finish some ax ay bx by first last near in
      by_lt_z (pos 0) ax
      (λ right. by_lt_z (pos 0) bx
      (λ both.
      let p = times_nonneg (m -ℤ j) (ax -ℤ pos 1) (omega (arith, ints)) (omega (arith, ints)) in
      let q = times_nonneg j (bx -ℤ pos 1) start (omega (arith, ints)) in
      let e = ring (j ∷ m ∷ ax ∷ bx ∷ []) (V 1 ⊗ V 2 ⊕ V 0 ⊗ (V 3 ⊖ V 2)) (V 1 ⊕ (V 1 ⊖ V 0) ⊗ (V 2 ⊖ K (pos 1)) ⊕ V 0 ⊗ (V 3 ⊖ K (pos 1))) tt in
      omega (arith, ints))
      (λ left.
      forward (m -ℤ j) m (omega (arith, ints)) (omega (arith, ints)) some bx by ax ay (turned r d (pos 0) ax ay bx by first) (turned r d (pos 1) ax ay bx by last)
      (near_turned r d k n j m ax ay bx by near) left (omega (arith, ints))))
      (λ left. by_lt_z (pos 0) bx
      (λ right. forward j m start finish some ax ay bx by first last near left (omega (arith, ints)))
      (λ both.
      let p = times_nonneg (m -ℤ j) (pos 0 -ℤ ax) (omega (arith, ints)) (omega (arith, ints)) in
      let q = times_nonneg j (pos 0 -ℤ bx) start (omega (arith, ints)) in
      let e = ring (j ∷ m ∷ ax ∷ bx ∷ []) (V 1 ⊗ V 2 ⊕ V 0 ⊗ (V 3 ⊖ V 2)) (K (pos 0) ⊖ (V 1 ⊖ V 0) ⊗ (K (pos 0) ⊖ V 2) ⊖ V 0 ⊗ (K (pos 0) ⊖ V 3)) tt in
      omega (arith, ints)))
