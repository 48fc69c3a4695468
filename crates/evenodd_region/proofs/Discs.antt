-- What the open disc of a moment holds: its centre, and with a point the whole way to it from the centre.
use Rattle.std.proofs.Common.{◌≡◌, ℤ, pos, ◌+ℤ◌, ◌-ℤ◌, ◌*ℤ◌, ◌≤ℤ◌, ◌<ℤ◌, [], ◌∷◌, arith, ap, ap₂, ◌∙◌}
use Rattle.std.proofs.lemmas.Int.{ints, by_lt_z}
use Rattle.integer_algebra.proofs.Ring.{ring, V, K, ◌⊕◌, ◌⊖◌, ◌⊗◌}
use Rattle.integer_algebra.proofs.Order.{square_nonneg, square_le, times_nonneg, times_pos, times_le, times_lt, cancel_lt, zero_times}
use Rattle.plane_exact.specs.Distance.{square, scaled_distance, IsCloser}
use Rattle.plane_exact.specs.Plane.{RationalPoint}
use Rattle.engrave_model.proofs.Discs.{distance_nonneg}
use Rattle.plane_exact.specs.Plane.{IsOnPath}

square_some : (z : ℤ) → pos 0 <ℤ z → pos 0 <ℤ square z
square_some z some = times_pos z z some some

-- ---- the centre

-- a disc that holds a point has a radius
pub slope_some : (slope z den : ℤ) (v w : RationalPoint) → pos 0 ≤ℤ slope → IsCloser (slope *ℤ z) den v w → pos 0 <ℤ slope
slope_some slope z den v w nonneg close =
    by_lt_z (pos 0) slope
    (λ l. l)
    (λ l.
    let none : slope ≡ pos 0 = omega (arith, ints) in
    let B = square (v.over *ℤ w.over) in
    let flat : square (slope *ℤ z) *ℤ B ≡ pos 0 =
    ap (λ s. square (s *ℤ z) *ℤ B) none
    ∙ ring (z ∷ B ∷ []) (((K (pos 0) ⊗ V 0) ⊗ (K (pos 0) ⊗ V 0)) ⊗ V 1) (K (pos 0)) tt in
    let some = times_nonneg (scaled_distance v w) (square den) (distance_nonneg v w) (square_nonneg den) in
    absurd (omega (arith, ints)))

-- one coordinate of the way from a point to itself
no_way : (m v q u : ℤ) → m *ℤ u ≡ q *ℤ v → u *ℤ m -ℤ v *ℤ q ≡ pos 0
no_way m v q u same =
    ring (m ∷ v ∷ q ∷ u ∷ []) (V 3 ⊗ V 0 ⊖ V 1 ⊗ V 2) (V 0 ⊗ V 3 ⊖ V 2 ⊗ V 1) tt
    ∙ ap (λ z. z -ℤ q *ℤ v) same
    ∙ ring (q ∷ v ∷ []) (V 0 ⊗ V 1 ⊖ V 0 ⊗ V 1) (K (pos 0)) tt

-- u is v, over another denominator
pub record IsSamePlace (v u : RationalPoint) : Type 0 where
  pub across : v.over *ℤ u.x ≡ u.over *ℤ v.x
  pub up : v.over *ℤ u.y ≡ u.over *ℤ v.y

pub centre_closer : (num den : ℤ) (v u : RationalPoint) → pos 0 <ℤ num → IsSamePlace v u → IsCloser num den v u
centre_closer num den v u some same =
    let v_over = v.positive in
    let u_over = u.positive in
    let no_distance : scaled_distance v u ≡ pos 0 =
    ap₂ (λ x y. square x +ℤ square y) (no_way v.over v.x u.over u.x same.across) (no_way v.over v.y u.over u.y same.up) in
    let left : scaled_distance v u *ℤ square den ≡ pos 0 = ap (λ z. z *ℤ square den) no_distance ∙ zero_times (square den) in
    let whole = square_some (v.over *ℤ u.over) (times_pos v.over u.over (omega (arith, ints)) (omega (arith, ints))) in
    let right = times_pos (square num) (square (v.over *ℤ u.over)) (square_some num some) whole in
    omega (arith, ints)

-- ---- the way to a point

-- one coordinate of the way from v / m to the point u / q of the path, by that of the way from v / m to w / o
way_part : (m v o w q u k n : ℤ) → (n *ℤ (m *ℤ o)) *ℤ u ≡ q *ℤ ((n -ℤ k) *ℤ (o *ℤ v) +ℤ k *ℤ (m *ℤ w))
    → (n *ℤ o) *ℤ (u *ℤ m -ℤ v *ℤ q) ≡ (q *ℤ k) *ℤ (w *ℤ m -ℤ v *ℤ o)
way_part m v o w q u k n on =
    let xs = m ∷ v ∷ o ∷ w ∷ q ∷ u ∷ k ∷ n ∷ [] in
    ring xs ((V 7 ⊗ V 2) ⊗ (V 5 ⊗ V 0 ⊖ V 1 ⊗ V 4)) ((V 7 ⊗ (V 0 ⊗ V 2)) ⊗ V 5 ⊖ (V 7 ⊗ V 2) ⊗ (V 1 ⊗ V 4)) tt
    ∙ ap (λ z. z -ℤ (n *ℤ o) *ℤ (v *ℤ q)) on
    ∙ ring xs (V 4 ⊗ ((V 7 ⊖ V 6) ⊗ (V 2 ⊗ V 1) ⊕ V 6 ⊗ (V 0 ⊗ V 3)) ⊖ (V 7 ⊗ V 2) ⊗ (V 1 ⊗ V 4)) ((V 4 ⊗ V 6) ⊗ (V 3 ⊗ V 0 ⊖ V 1 ⊗ V 2)) tt

-- a part of a way is shorter than what the whole way is shorter than
shorter : (m o q k n X Y x y num den : ℤ) → pos 1 ≤ℤ m → pos 1 ≤ℤ o → pos 1 ≤ℤ q → pos 0 ≤ℤ k → k ≤ℤ n → pos 1 ≤ℤ n
    → (n *ℤ o) *ℤ X ≡ (q *ℤ k) *ℤ x → (n *ℤ o) *ℤ Y ≡ (q *ℤ k) *ℤ y
    → ((square x +ℤ square y) *ℤ square den) <ℤ (square num *ℤ square (m *ℤ o))
    → ((square X +ℤ square Y) *ℤ square den) <ℤ (square num *ℤ square (m *ℤ q))
shorter m o q k n X Y x y num den m_some o_some q_some start finish some across up close =
    let N = square (n *ℤ o) in
    let D = (square x +ℤ square y) *ℤ square den in
    let R = square num *ℤ square (m *ℤ o) in
    let n_some : pos 0 <ℤ N = square_some (n *ℤ o) (times_pos n o (omega (arith, ints)) (omega (arith, ints))) in
    let d_nonneg : pos 0 ≤ℤ D = times_nonneg (square x +ℤ square y) (square den)
    (let p = square_nonneg x in let q = square_nonneg y in omega (arith, ints)) (square_nonneg den) in
    let part : square (q *ℤ k) ≤ℤ square (q *ℤ n) =
    square_le (q *ℤ k) (q *ℤ n) (times_nonneg q k (omega (arith, ints)) start) (times_le q k n (omega (arith, ints)) finish) in
    let first = times_le D (square (q *ℤ k)) (square (q *ℤ n)) d_nonneg part in
    let second = times_lt (square (q *ℤ n)) D R (square_some (q *ℤ n) (times_pos q n (omega (arith, ints)) (omega (arith, ints)))) close in
    let left : N *ℤ ((square X +ℤ square Y) *ℤ square den) ≡ D *ℤ square (q *ℤ k) =
    ring (n ∷ o ∷ X ∷ Y ∷ den ∷ [])
    (((V 0 ⊗ V 1) ⊗ (V 0 ⊗ V 1)) ⊗ ((V 2 ⊗ V 2 ⊕ V 3 ⊗ V 3) ⊗ (V 4 ⊗ V 4)))
    ((((V 0 ⊗ V 1) ⊗ V 2) ⊗ ((V 0 ⊗ V 1) ⊗ V 2) ⊕ ((V 0 ⊗ V 1) ⊗ V 3) ⊗ ((V 0 ⊗ V 1) ⊗ V 3)) ⊗ (V 4 ⊗ V 4)) tt
    ∙ ap₂ (λ a b. (square a +ℤ square b) *ℤ square den) across up
    ∙ ring (q ∷ k ∷ x ∷ y ∷ den ∷ [])
    ((((V 0 ⊗ V 1) ⊗ V 2) ⊗ ((V 0 ⊗ V 1) ⊗ V 2) ⊕ ((V 0 ⊗ V 1) ⊗ V 3) ⊗ ((V 0 ⊗ V 1) ⊗ V 3)) ⊗ (V 4 ⊗ V 4))
    (((V 2 ⊗ V 2 ⊕ V 3 ⊗ V 3) ⊗ (V 4 ⊗ V 4)) ⊗ ((V 0 ⊗ V 1) ⊗ (V 0 ⊗ V 1))) tt in
    let right : N *ℤ (square num *ℤ square (m *ℤ q)) ≡ square (q *ℤ n) *ℤ R =
    ring (n ∷ o ∷ m ∷ q ∷ num ∷ [])
    (((V 0 ⊗ V 1) ⊗ (V 0 ⊗ V 1)) ⊗ ((V 4 ⊗ V 4) ⊗ ((V 2 ⊗ V 3) ⊗ (V 2 ⊗ V 3))))
    (((V 3 ⊗ V 0) ⊗ (V 3 ⊗ V 0)) ⊗ ((V 4 ⊗ V 4) ⊗ ((V 2 ⊗ V 1) ⊗ (V 2 ⊗ V 1)))) tt in
    let turned = ring (D ∷ q ∷ n ∷ []) (V 0 ⊗ ((V 1 ⊗ V 2) ⊗ (V 1 ⊗ V 2))) (((V 1 ⊗ V 2) ⊗ (V 1 ⊗ V 2)) ⊗ V 0) tt in
    cancel_lt N _ _ (omega (arith, ints)) (omega (arith, ints))

pub way_closer : (num den : ℤ) (v w u : RationalPoint) → IsOnPath v w u → IsCloser num den v w → IsCloser num den v u
way_closer num den v w u on close =
    shorter v.over w.over u.over on.at.k on.at.n _ _ _ _ num den v.positive w.positive u.positive on.at.start on.at.finish on.at.some
    (way_part v.over v.x w.over w.x u.over u.x on.at.k on.at.n on.across)
    (way_part v.over v.y w.over w.y u.over u.y on.at.k on.at.n on.up)
    close
