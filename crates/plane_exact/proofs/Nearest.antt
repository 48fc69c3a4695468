-- Which point of a straight path is nearest to the origin, in whole numbers.
--
-- The path begins at e and goes the way d, so that its points are e + (k / n) d, for the fractions k / n. Times n that is
-- n e + k d. The nearest is the start, where the path leads away from there, the finish, where it comes nearer up to there, and
-- else the foot of the origin on the path's line.
use Rattle.std.proofs.Common.{◌≡◌, ◌↔◌, ◌⊎◌, inl, inr, ℤ, pos, ◌+ℤ◌, ◌-ℤ◌, ◌*ℤ◌, neg_ℤ, ◌≤ℤ◌, ◌<ℤ◌, [], ◌∷◌, arith, ap}
use Rattle.std.proofs.lemmas.Int.{ints, by_lt_z}
use Rattle.integer_algebra.proofs.Ring.{ring, V, K, M, ◌⊕◌, ◌⊖◌, ◌⊗◌}
use Rattle.integer_algebra.proofs.Order.{square_nonneg, times_nonneg, times_pos, times_le, cancel_le}
use Rattle.plane_exact.specs.Plane.{Fraction}
use Rattle.plane_exact.proofs.Fractions.{first, last}

-- n e + k d, in one coordinate
abbrev pub place : ℤ → ℤ → Fraction → ℤ
place e d s = s.n *ℤ e +ℤ s.k *ℤ d

abbrev pub length_squared : ℤ → ℤ → ℤ
length_squared x y = x *ℤ x +ℤ y *ℤ y

-- the square of the place's distance from the origin, times n^2
abbrev pub far_at : (ex ey dx dy : ℤ) → Fraction → ℤ
far_at ex ey dx dy s = length_squared (place ex dx s) (place ey dy s)

-- no place is nearer than this one
abbrev pub IsNearest : (ex ey dx dy : ℤ) → Fraction → Type 0
IsNearest ex ey dx dy s = (t : Fraction) → (far_at ex ey dx dy s *ℤ (t.n *ℤ t.n)) ≤ℤ (far_at ex ey dx dy t *ℤ (s.n *ℤ s.n))

length_nonneg : (x y : ℤ) → pos 0 ≤ℤ length_squared x y
length_nonneg x y = let p = square_nonneg x in let q = square_nonneg y in omega (arith, ints)

-- ---- the three candidates

module _ (ex ey dx dy : ℤ) where
  -- how far the path runs away from the origin, at its start and at its finish
  abbrev pub along_start : ℤ
  along_start = ex *ℤ dx +ℤ ey *ℤ dy

  abbrev pub along_finish : ℤ
  along_finish = (ex +ℤ dx) *ℤ dx +ℤ (ey +ℤ dy) *ℤ dy

  -- how far the path's line lies from the origin, times the path's length
  abbrev pub beside : ℤ
  beside = dx *ℤ ey -ℤ dy *ℤ ex

  abbrev pub foot : along_start ≤ℤ pos 0 → pos 0 ≤ℤ (along_start +ℤ length_squared dx dy) → pos 0 <ℤ length_squared dx dy → Fraction
  foot before after long = record { k = neg_ℤ along_start; n = length_squared dx dy; start = omega (arith, ints); finish = omega (arith, ints); some = omega (arith, ints) }

  pub nearest_start : pos 0 ≤ℤ along_start → IsNearest ex ey dx dy first
  nearest_start away t =
      let k = t.k in
      let n = t.n in
      let t_start = t.start in
      let t_some = t.some in
      let p = times_nonneg (n *ℤ k) along_start (times_nonneg n k (omega (arith, ints)) t_start) away in
      let q = times_nonneg (k *ℤ k) (length_squared dx dy) (square_nonneg k) (length_nonneg dx dy) in
      let px = V 5 ⊗ V 0 ⊕ V 4 ⊗ V 2 in
      let py = V 5 ⊗ V 1 ⊕ V 4 ⊗ V 3 in
      let fx = K (pos 1) ⊗ V 0 ⊕ K (pos 0) ⊗ V 2 in
      let fy = K (pos 1) ⊗ V 1 ⊕ K (pos 0) ⊗ V 3 in
      let split = ring (ex ∷ ey ∷ dx ∷ dy ∷ k ∷ n ∷ []) ((px ⊗ px ⊕ py ⊗ py) ⊗ (K (pos 1) ⊗ K (pos 1)))
      ((fx ⊗ fx ⊕ fy ⊗ fy) ⊗ (V 5 ⊗ V 5) ⊕ (K (pos 2) ⊗ ((V 5 ⊗ V 4) ⊗ (V 0 ⊗ V 2 ⊕ V 1 ⊗ V 3)) ⊕ (V 4 ⊗ V 4) ⊗ (V 2 ⊗ V 2 ⊕ V 3 ⊗ V 3))) tt in
      omega (arith, ints)

  pub nearest_finish : along_finish ≤ℤ pos 0 → IsNearest ex ey dx dy last
  nearest_finish near t =
      let k = t.k in
      let n = t.n in
      let t_finish = t.finish in
      let t_some = t.some in
      let p = times_nonneg (n *ℤ (n -ℤ k)) (neg_ℤ along_finish) (times_nonneg n (n -ℤ k) (omega (arith, ints)) (omega (arith, ints))) (omega (arith, ints)) in
      let q = times_nonneg ((n -ℤ k) *ℤ (n -ℤ k)) (length_squared dx dy) (square_nonneg (n -ℤ k)) (length_nonneg dx dy) in
      let px = V 5 ⊗ V 0 ⊕ V 4 ⊗ V 2 in
      let py = V 5 ⊗ V 1 ⊕ V 4 ⊗ V 3 in
      let fx = K (pos 1) ⊗ V 0 ⊕ K (pos 1) ⊗ V 2 in
      let fy = K (pos 1) ⊗ V 1 ⊕ K (pos 1) ⊗ V 3 in
      let rest = V 5 ⊖ V 4 in
      let split = ring (ex ∷ ey ∷ dx ∷ dy ∷ k ∷ n ∷ []) ((px ⊗ px ⊕ py ⊗ py) ⊗ (K (pos 1) ⊗ K (pos 1)))
      ((fx ⊗ fx ⊕ fy ⊗ fy) ⊗ (V 5 ⊗ V 5) ⊕ (K (pos 2) ⊗ ((V 5 ⊗ rest) ⊗ M ((V 0 ⊕ V 2) ⊗ V 2 ⊕ (V 1 ⊕ V 3) ⊗ V 3)) ⊕ (rest ⊗ rest) ⊗ (V 2 ⊗ V 2 ⊕ V 3 ⊗ V 3))) tt in
      omega (arith, ints)

  module _ (before : along_start ≤ℤ pos 0) (after : pos 0 ≤ℤ (along_start +ℤ length_squared dx dy)) (long : pos 0 <ℤ length_squared dx dy) where
    abbrev L : ℤ
    L = length_squared dx dy

    foot_far : far_at ex ey dx dy (foot before after long) ≡ L *ℤ (beside *ℤ beside)
    foot_far =
        let l = V 2 ⊗ V 2 ⊕ V 3 ⊗ V 3 in
        let a = V 0 ⊗ V 2 ⊕ V 1 ⊗ V 3 in
        let t = V 2 ⊗ V 1 ⊖ V 3 ⊗ V 0 in
        let px = l ⊗ V 0 ⊕ M a ⊗ V 2 in
        let py = l ⊗ V 1 ⊕ M a ⊗ V 3 in
        ring (ex ∷ ey ∷ dx ∷ dy ∷ []) (px ⊗ px ⊕ py ⊗ py) (l ⊗ (t ⊗ t)) tt

    pub nearest_foot : IsNearest ex ey dx dy (foot before after long)
    nearest_foot t =
        let k = t.k in
        let n = t.n in
        let N = n *ℤ n in
        let B = beside *ℤ beside in
        let forward = dx *ℤ place ex dx t +ℤ dy *ℤ place ey dy t in
        let G = forward *ℤ forward in
        let F = far_at ex ey dx dy t in
        let px = V 5 ⊗ V 0 ⊕ V 4 ⊗ V 2 in
        let py = V 5 ⊗ V 1 ⊕ V 4 ⊗ V 3 in
        let c = V 2 ⊗ V 1 ⊖ V 3 ⊗ V 0 in
        let g = V 2 ⊗ px ⊕ V 3 ⊗ py in
        let split : L *ℤ F ≡ N *ℤ B +ℤ G = ring (ex ∷ ey ∷ dx ∷ dy ∷ k ∷ n ∷ []) ((V 2 ⊗ V 2 ⊕ V 3 ⊗ V 3) ⊗ (px ⊗ px ⊕ py ⊗ py)) ((V 5 ⊗ V 5) ⊗ (c ⊗ c) ⊕ g ⊗ g) tt in
        let turned = ring (F ∷ L ∷ []) (V 0 ⊗ (V 1 ⊗ V 1)) (V 1 ⊗ (V 1 ⊗ V 0)) tt in
        let times_split = ap (λ z. L *ℤ z) split in
        let parts = ring (L ∷ N ∷ B ∷ G ∷ []) (V 0 ⊗ (V 1 ⊗ V 2 ⊕ V 3)) ((V 0 ⊗ V 2) ⊗ V 1 ⊕ V 0 ⊗ V 3) tt in
        let at_foot = ap (λ z. z *ℤ N) foot_far in
        let rest = times_nonneg L G (length_nonneg dx dy) (square_nonneg forward) in
        omega (arith, ints)

-- ---- the nearest of all

pub record HasNearest (ex ey dx dy : ℤ) : Type 0 where
  pub at : Fraction
  pub nearest : IsNearest ex ey dx dy at

pub nearest : (ex ey dx dy : ℤ) → HasNearest ex ey dx dy
nearest ex ey dx dy =
    let rest : along_finish ex ey dx dy ≡ along_start ex ey dx dy +ℤ length_squared dx dy =
    ring (ex ∷ ey ∷ dx ∷ dy ∷ []) ((V 0 ⊕ V 2) ⊗ V 2 ⊕ (V 1 ⊕ V 3) ⊗ V 3) ((V 0 ⊗ V 2 ⊕ V 1 ⊗ V 3) ⊕ (V 2 ⊗ V 2 ⊕ V 3 ⊗ V 3)) tt in
    by_lt_z (along_start ex ey dx dy) (pos 0)
    (λ towards. by_lt_z (pos 0) (along_finish ex ey dx dy)
    (λ past.
    let before : along_start ex ey dx dy ≤ℤ pos 0 = omega (arith, ints) in
    let after : pos 0 ≤ℤ (along_start ex ey dx dy +ℤ length_squared dx dy) = omega (arith, ints) in
    let long : pos 0 <ℤ length_squared dx dy = omega (arith, ints) in
    record { at = foot ex ey dx dy before after long; nearest = nearest_foot ex ey dx dy before after long })
    (λ near. record { at = last; nearest = nearest_finish ex ey dx dy near }))
    (λ away. record { at = first; nearest = nearest_start ex ey dx dy away })

-- ---- a path that keeps off the origin

-- Q n^2 ≤ S |n e + k d|^2: at the place, S times the square of the distance is at least Q
abbrev pub KeepsOffAt : (Q S ex ey dx dy : ℤ) → Fraction → Type 0
KeepsOffAt Q S ex ey dx dy s = (Q *ℤ (s.n *ℤ s.n)) ≤ℤ (S *ℤ far_at ex ey dx dy s)

-- at each place
abbrev pub KeepsOff : (Q S ex ey dx dy : ℤ) → Type 0
KeepsOff Q S ex ey dx dy = (s : Fraction) → KeepsOffAt Q S ex ey dx dy s

-- one of its places is nearer than that
pub record IsNearer (Q S ex ey dx dy : ℤ) : Type 0 where
  pub at : Fraction
  pub near : (S *ℤ far_at ex ey dx dy at) <ℤ (Q *ℤ (at.n *ℤ at.n))

module _ (Q S ex ey dx dy : ℤ) (s : pos 0 ≤ℤ S) where
  -- where the nearest place keeps off, all do
  pub off_by_nearest : (f : Fraction) → IsNearest ex ey dx dy f → KeepsOffAt Q S ex ey dx dy f → KeepsOff Q S ex ey dx dy
  off_by_nearest f is off t =
      let f_some = f.some in
      let M = f.n *ℤ f.n in
      let N = t.n *ℤ t.n in
      let F = far_at ex ey dx dy f in
      let T = far_at ex ey dx dy t in
      let p = times_le N (Q *ℤ M) (S *ℤ F) (square_nonneg t.n) off in
      let q = times_le S (F *ℤ N) (T *ℤ M) s (is t) in
      let xs = Q ∷ S ∷ F ∷ T ∷ M ∷ N ∷ [] in
      let left = ring xs (V 5 ⊗ (V 0 ⊗ V 4)) (V 4 ⊗ (V 0 ⊗ V 5)) tt in
      let middle = ring xs (V 5 ⊗ (V 1 ⊗ V 2)) (V 1 ⊗ (V 2 ⊗ V 5)) tt in
      let right = ring xs (V 1 ⊗ (V 3 ⊗ V 4)) (V 4 ⊗ (V 1 ⊗ V 3)) tt in
      cancel_le M (Q *ℤ N) (S *ℤ T) (times_pos f.n f.n (omega (arith, ints)) (omega (arith, ints))) (omega (arith, ints))

  -- the path keeps off, or its nearest place is nearer
  pub nearer_or_off : IsNearer Q S ex ey dx dy ⊎ KeepsOff Q S ex ey dx dy
  nearer_or_off =
      let there = nearest ex ey dx dy in
      let f = there.at in
      by_lt_z (S *ℤ far_at ex ey dx dy f) (Q *ℤ (f.n *ℤ f.n))
      (λ near. inl (record { at = f; near = near }))
      (λ off. inr (off_by_nearest f there.nearest off))

-- ---- what keeping off is at each candidate

module _ (Q S ex ey dx dy : ℤ) where
  pub at_first : KeepsOffAt Q S ex ey dx dy first ↔ (Q ≤ℤ (S *ℤ length_squared ex ey))
  at_first =
      let px = K (pos 1) ⊗ V 0 ⊕ K (pos 0) ⊗ V 2 in
      let py = K (pos 1) ⊗ V 1 ⊕ K (pos 0) ⊗ V 3 in
      let e = ring (ex ∷ ey ∷ dx ∷ dy ∷ S ∷ []) (V 4 ⊗ (px ⊗ px ⊕ py ⊗ py)) (V 4 ⊗ (V 0 ⊗ V 0 ⊕ V 1 ⊗ V 1)) tt in
      ((λ h. omega (arith, ints)), (λ h. omega (arith, ints)))

  pub at_last : KeepsOffAt Q S ex ey dx dy last ↔ (Q ≤ℤ (S *ℤ length_squared (ex +ℤ dx) (ey +ℤ dy)))
  at_last =
      let px = K (pos 1) ⊗ V 0 ⊕ K (pos 1) ⊗ V 2 in
      let py = K (pos 1) ⊗ V 1 ⊕ K (pos 1) ⊗ V 3 in
      let e = ring (ex ∷ ey ∷ dx ∷ dy ∷ S ∷ []) (V 4 ⊗ (px ⊗ px ⊕ py ⊗ py)) (V 4 ⊗ ((V 0 ⊕ V 2) ⊗ (V 0 ⊕ V 2) ⊕ (V 1 ⊕ V 3) ⊗ (V 1 ⊕ V 3))) tt in
      ((λ h. omega (arith, ints)), (λ h. omega (arith, ints)))

  pub at_foot : (before : along_start ex ey dx dy ≤ℤ pos 0) (after : pos 0 ≤ℤ (along_start ex ey dx dy +ℤ length_squared dx dy)) (long : pos 0 <ℤ length_squared dx dy)
      → KeepsOffAt Q S ex ey dx dy (foot ex ey dx dy before after long) ↔ ((Q *ℤ length_squared dx dy) ≤ℤ (S *ℤ (beside ex ey dx dy *ℤ beside ex ey dx dy)))
  at_foot before after long =
      let L = length_squared dx dy in
      let B = beside ex ey dx dy *ℤ beside ex ey dx dy in
      let there = ap (λ z. S *ℤ z) (foot_far ex ey dx dy before after long) in
      let left = ring (Q ∷ L ∷ []) (V 0 ⊗ (V 1 ⊗ V 1)) (V 1 ⊗ (V 0 ⊗ V 1)) tt in
      let right = ring (S ∷ L ∷ B ∷ []) (V 0 ⊗ (V 1 ⊗ V 2)) (V 1 ⊗ (V 0 ⊗ V 2)) tt in (
        (λ h. cancel_le L (Q *ℤ L) (S *ℤ B) long (omega (arith, ints))),
        (λ h. let p = times_le L (Q *ℤ L) (S *ℤ B) (omega (arith, ints)) h in omega (arith, ints)),
      )
