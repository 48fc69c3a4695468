-- Every point of a segment keeps off a centre: the test of `Nearest` for rational points, and what it is at a grid point.
--
-- The centre is any rational point, and Q and S any numbers: Q |over|^2 ≤ S |way|^2 in place of the squares of a distance's parts,
-- where over is the denominator of the segment's point, and the way to it is times that of the centre.
use Rattle.std.proofs.Common.{◌≡◌, ◌↔◌, ◌⊎◌, inl, inr, ℤ, pos, ◌+ℤ◌, ◌-ℤ◌, ◌*ℤ◌, ◌≤ℤ◌, ◌<ℤ◌, neg_ℤ, List, [], ◌∷◌, arith, refl, ap, ap₂, ◌∙◌}
use Rattle.std.proofs.lemmas.Int.{ints}
use Rattle.integer_algebra.proofs.Ring.{ring, Term, V, K, M, ◌⊕◌, ◌⊖◌, ◌⊗◌}
use Rattle.integer_algebra.proofs.Order.{square_nonneg, times_pos, times_le, cancel_le, cancel_same}
use Rattle.plane_exact.specs.Plane.{Fraction, GridPoint, RationalPoint, IsBetween, rational}
use Rattle.plane_exact.specs.Distance.{square, scaled_distance, IsAtLeastApart}
use Rattle.plane_exact.specs.Product.{cross_of, dot_of}
use Rattle.plane_exact.proofs.Fractions.{first, last}
use Rattle.plane_exact.proofs.Nearest.{KeepsOff, length_squared, place, far_at, foot, nearest_start, nearest_finish, nearest_foot, nearer_or_off, off_by_nearest, at_first, at_last, at_foot}

abbrev pub IsFarEnough : ℤ → ℤ → RationalPoint → GridPoint → GridPoint → Type 0
IsFarEnough Q S v a b = (w : RationalPoint) → IsBetween a b w → (Q *ℤ square w.over) ≤ℤ (scaled_distance v w *ℤ S)

-- a point of the segment isn't far enough
pub record HasNear (Q S : ℤ) (v : RationalPoint) (a b : GridPoint) : Type 0 where
  pub point : RationalPoint
  pub on : IsBetween a b point
  pub near : (scaled_distance v point *ℤ S) <ℤ (Q *ℤ square point.over)

-- one coordinate of the way from the centre v / m to the point w / o of the segment
scaled_place : (m v o w a b : ℤ) (s : Fraction) → s.n *ℤ w ≡ o *ℤ (s.n *ℤ a +ℤ s.k *ℤ (b -ℤ a)) → s.n *ℤ (w *ℤ m -ℤ v *ℤ o) ≡ o *ℤ place (m *ℤ a -ℤ v) (m *ℤ (b -ℤ a)) s
scaled_place m v o w a b s on =
    let xs = m ∷ v ∷ o ∷ w ∷ a ∷ b ∷ s.k ∷ s.n ∷ [] in
    ring xs (V 7 ⊗ (V 3 ⊗ V 0 ⊖ V 1 ⊗ V 2)) (V 0 ⊗ (V 7 ⊗ V 3) ⊖ V 7 ⊗ (V 1 ⊗ V 2)) tt
    ∙ ap (λ z. m *ℤ z -ℤ s.n *ℤ (v *ℤ o)) on
    ∙ ring xs (V 0 ⊗ (V 2 ⊗ (V 7 ⊗ V 4 ⊕ V 6 ⊗ (V 5 ⊖ V 4))) ⊖ V 7 ⊗ (V 1 ⊗ V 2)) (V 2 ⊗ (V 7 ⊗ (V 0 ⊗ V 4 ⊖ V 1) ⊕ V 6 ⊗ (V 0 ⊗ (V 5 ⊖ V 4)))) tt

squares_scaled : (n o X Y x y : ℤ) → n *ℤ X ≡ o *ℤ x → n *ℤ Y ≡ o *ℤ y → (n *ℤ n) *ℤ length_squared X Y ≡ (o *ℤ o) *ℤ length_squared x y
squares_scaled n o X Y x y across up =
    ring (n ∷ X ∷ Y ∷ []) ((V 0 ⊗ V 0) ⊗ (V 1 ⊗ V 1 ⊕ V 2 ⊗ V 2)) ((V 0 ⊗ V 1) ⊗ (V 0 ⊗ V 1) ⊕ (V 0 ⊗ V 2) ⊗ (V 0 ⊗ V 2)) tt
    ∙ ap₂ length_squared across up
    ∙ ring (o ∷ x ∷ y ∷ []) ((V 0 ⊗ V 1) ⊗ (V 0 ⊗ V 1) ⊕ (V 0 ⊗ V 2) ⊗ (V 0 ⊗ V 2)) ((V 0 ⊗ V 0) ⊗ (V 1 ⊗ V 1 ⊕ V 2 ⊗ V 2)) tt

module _ (Q S : ℤ) (v : RationalPoint) (a b : GridPoint) where
  -- the way from the centre to the segment's start, and from there to its finish, times the centre's denominator
  abbrev from_x : ℤ
  from_x = v.over *ℤ a.x -ℤ v.x

  abbrev from_y : ℤ
  from_y = v.over *ℤ a.y -ℤ v.y

  abbrev way_x : ℤ
  way_x = v.over *ℤ (b.x -ℤ a.x)

  abbrev way_y : ℤ
  way_y = v.over *ℤ (b.y -ℤ a.y)

  abbrev pub SegmentKeepsOff : Type 0
  SegmentKeepsOff = KeepsOff Q S from_x from_y way_x way_y

  distance_at : (w : RationalPoint) (on : IsBetween a b w) → (on.at.n *ℤ on.at.n) *ℤ scaled_distance v w ≡ (w.over *ℤ w.over) *ℤ far_at from_x from_y way_x way_y on.at
  distance_at w on =
      squares_scaled on.at.n w.over _ _ _ _
      (scaled_place v.over v.x w.over w.x a.x b.x on.at on.across)
      (scaled_place v.over v.y w.over w.y a.y b.y on.at on.up)

  pub far_of_off : SegmentKeepsOff → IsFarEnough Q S v a b
  far_of_off off w on =
      let n = on.at.n in
      let some = on.at.some in
      let N = n *ℤ n in
      let O = square w.over in
      let F = far_at from_x from_y way_x way_y on.at in
      let D = scaled_distance v w in
      let p = times_le O (Q *ℤ N) (S *ℤ F) (square_nonneg w.over) (off on.at) in
      let same = ap (λ z. S *ℤ z) (distance_at w on) in
      let left = ring (Q ∷ N ∷ O ∷ []) (V 1 ⊗ (V 0 ⊗ V 2)) (V 2 ⊗ (V 0 ⊗ V 1)) tt in
      let right = ring (S ∷ O ∷ F ∷ []) (V 1 ⊗ (V 0 ⊗ V 2)) (V 0 ⊗ (V 1 ⊗ V 2)) tt in
      let there = ring (S ∷ N ∷ D ∷ []) (V 1 ⊗ (V 2 ⊗ V 0)) (V 0 ⊗ (V 1 ⊗ V 2)) tt in
      cancel_le N (Q *ℤ O) (D *ℤ S) (times_pos n n (omega (arith, ints)) (omega (arith, ints))) (omega (arith, ints))

  -- the point of the segment at a fraction of its way
  abbrev point_at : Fraction → RationalPoint
  point_at s = record { x = s.n *ℤ a.x +ℤ s.k *ℤ (b.x -ℤ a.x); y = s.n *ℤ a.y +ℤ s.k *ℤ (b.y -ℤ a.y); over = s.n; positive = s.some }

  abbrev on_at : (s : Fraction) → IsBetween a b (point_at s)
  on_at s = record { at = s; across = refl; up = refl }

  far_there : (s : Fraction) → scaled_distance v (point_at s) ≡ far_at from_x from_y way_x way_y s
  far_there s = let some = s.some in cancel_same (s.n *ℤ s.n) _ _ (times_pos s.n s.n (omega (arith, ints)) (omega (arith, ints))) (distance_at (point_at s) (on_at s))

  pub off_of_far : IsFarEnough Q S v a b → SegmentKeepsOff
  off_of_far far s =
      let h = far (point_at s) (on_at s) in
      let same = ap (λ z. z *ℤ S) (far_there s) in
      let turned = ring (S ∷ far_at from_x from_y way_x way_y s ∷ []) (V 0 ⊗ V 1) (V 1 ⊗ V 0) tt in
      omega (arith, ints)

  -- every point is far enough, or one is named that isn't
  pub near_or_far : pos 0 ≤ℤ S → HasNear Q S v a b ⊎ IsFarEnough Q S v a b
  near_or_far s = elim (nearer_or_off Q S from_x from_y way_x way_y s) [
    | inl nearer ↦
        (let f = nearer.at in
        let near = nearer.near in
        let same = ap (λ z. z *ℤ S) (far_there f) in
        let turned = ring (S ∷ far_at from_x from_y way_x way_y f ∷ []) (V 0 ⊗ V 1) (V 1 ⊗ V 0) tt in
        inl (record { point = point_at f; on = on_at f; near = omega (arith, ints) }))
    | inr off ↦ inr (far_of_off off)
  ]

-- ---- a grid point as the centre

module _ (R S : ℤ) (p a b : GridPoint) (s : pos 0 ≤ℤ S) where
  abbrev ex : ℤ
  ex = pos 1 *ℤ a.x -ℤ p.x

  abbrev ey : ℤ
  ey = pos 1 *ℤ a.y -ℤ p.y

  abbrev dx : ℤ
  dx = pos 1 *ℤ (b.x -ℤ a.x)

  abbrev dy : ℤ
  dy = pos 1 *ℤ (b.y -ℤ a.y)

  abbrev atoms : List ℤ
  atoms = p.x ∷ p.y ∷ a.x ∷ a.y ∷ b.x ∷ b.y ∷ R ∷ S ∷ []

  -- the same as terms
  abbrev tex : Term
  tex = K (pos 1) ⊗ V 2 ⊖ V 0

  abbrev tey : Term
  tey = K (pos 1) ⊗ V 3 ⊖ V 1

  abbrev tdx : Term
  tdx = K (pos 1) ⊗ (V 4 ⊖ V 2)

  abbrev tdy : Term
  tdy = K (pos 1) ⊗ (V 5 ⊖ V 3)

  -- how far the path runs towards the centre, at its start and at its finish
  along_start : ex *ℤ dx +ℤ ey *ℤ dy ≡ neg_ℤ (dot_of a b p)
  along_start = ring atoms (tex ⊗ tdx ⊕ tey ⊗ tdy) (M ((V 4 ⊖ V 2) ⊗ (V 0 ⊖ V 2) ⊕ (V 5 ⊖ V 3) ⊗ (V 1 ⊖ V 3))) tt

  along_finish : (ex +ℤ dx) *ℤ dx +ℤ (ey +ℤ dy) *ℤ dy ≡ dot_of b a p
  along_finish = ring atoms ((tex ⊕ tdx) ⊗ tdx ⊕ (tey ⊕ tdy) ⊗ tdy) ((V 2 ⊖ V 4) ⊗ (V 0 ⊖ V 4) ⊕ (V 3 ⊖ V 5) ⊗ (V 1 ⊖ V 5)) tt

  pub far_by_start : dot_of a b p ≤ℤ pos 0 → (R ≤ℤ (dot_of p a a *ℤ S)) ↔ IsFarEnough R S (rational p) a b
  far_by_start away =
      let along = along_start in
      let end = ring atoms (V 7 ⊗ (tex ⊗ tex ⊕ tey ⊗ tey)) (((V 2 ⊖ V 0) ⊗ (V 2 ⊖ V 0) ⊕ (V 3 ⊖ V 1) ⊗ (V 3 ⊖ V 1)) ⊗ V 7) tt in
      let test = at_first R S ex ey dx dy in (
        (λ h. far_of_off R S (rational p) a b (off_by_nearest R S ex ey dx dy s first (nearest_start ex ey dx dy (omega (arith, ints))) (test.1 (omega (arith, ints))))),
        (λ far. let h = test.0 (off_of_far R S (rational p) a b far first) in omega (arith, ints)),
      )

  pub far_by_finish : dot_of b a p ≤ℤ pos 0 → (R ≤ℤ (dot_of p b b *ℤ S)) ↔ IsFarEnough R S (rational p) a b
  far_by_finish near =
      let along = along_finish in
      let end = ring atoms (V 7 ⊗ ((tex ⊕ tdx) ⊗ (tex ⊕ tdx) ⊕ (tey ⊕ tdy) ⊗ (tey ⊕ tdy))) (((V 4 ⊖ V 0) ⊗ (V 4 ⊖ V 0) ⊕ (V 5 ⊖ V 1) ⊗ (V 5 ⊖ V 1)) ⊗ V 7) tt in
      let test = at_last R S ex ey dx dy in (
        (λ h. far_of_off R S (rational p) a b (off_by_nearest R S ex ey dx dy s last (nearest_finish ex ey dx dy (omega (arith, ints))) (test.1 (omega (arith, ints))))),
        (λ far. let h = test.0 (off_of_far R S (rational p) a b far last) in omega (arith, ints)),
      )

  pub far_by_foot : pos 0 <ℤ dot_of a b p → pos 0 <ℤ dot_of b a p → ((R *ℤ dot_of a b b) ≤ℤ ((cross_of a b p *ℤ cross_of a b p) *ℤ S)) ↔ IsFarEnough R S (rational p) a b
  far_by_foot facing_start facing_finish =
      let start = along_start in
      let finish = along_finish in
      let whole = ring atoms (tdx ⊗ tdx ⊕ tdy ⊗ tdy) (((V 2 ⊖ V 4) ⊗ (V 0 ⊖ V 4) ⊕ (V 3 ⊖ V 5) ⊗ (V 1 ⊖ V 5)) ⊕ ((V 4 ⊖ V 2) ⊗ (V 0 ⊖ V 2) ⊕ (V 5 ⊖ V 3) ⊗ (V 1 ⊖ V 3))) tt in
      let before : (ex *ℤ dx +ℤ ey *ℤ dy) ≤ℤ pos 0 = omega (arith, ints) in
      let after : pos 0 ≤ℤ (ex *ℤ dx +ℤ ey *ℤ dy +ℤ length_squared dx dy) = omega (arith, ints) in
      let long : pos 0 <ℤ length_squared dx dy = omega (arith, ints) in
      let left = ring atoms (V 6 ⊗ (tdx ⊗ tdx ⊕ tdy ⊗ tdy)) (V 6 ⊗ ((V 4 ⊖ V 2) ⊗ (V 4 ⊖ V 2) ⊕ (V 5 ⊖ V 3) ⊗ (V 5 ⊖ V 3))) tt in
      let beside = tdx ⊗ tey ⊖ tdy ⊗ tex in
      let across = (V 4 ⊖ V 2) ⊗ (V 1 ⊖ V 3) ⊖ (V 5 ⊖ V 3) ⊗ (V 0 ⊖ V 2) in
      let right = ring atoms (V 7 ⊗ (beside ⊗ beside)) ((across ⊗ across) ⊗ V 7) tt in
      let f = foot ex ey dx dy before after long in
      let test = at_foot R S ex ey dx dy before after long in (
        (λ h. far_of_off R S (rational p) a b (off_by_nearest R S ex ey dx dy s f (nearest_foot ex ey dx dy before after long) (test.1 (omega (arith, ints))))),
        (λ far. let h = test.0 (off_of_far R S (rational p) a b far f) in omega (arith, ints)),
      )

-- the same as a distance of num / den
pub far_is_apart : (num den : ℤ) (p a b : GridPoint) → IsFarEnough (square num) (square den) (rational p) a b ↔ ((w : RationalPoint) → IsBetween a b w → IsAtLeastApart num den (rational p) w)
far_is_apart num den p a b =
    let one : (w : RationalPoint) → square num *ℤ square w.over ≡ square num *ℤ square (pos 1 *ℤ w.over) = (λ w.
    ring (num ∷ w.over ∷ []) ((V 0 ⊗ V 0) ⊗ (V 1 ⊗ V 1)) ((V 0 ⊗ V 0) ⊗ ((K (pos 1) ⊗ V 1) ⊗ (K (pos 1) ⊗ V 1))) tt) in (
      (λ far w on. let h = far w on in let e = one w in omega (arith, ints)),
      (λ apart w on. let h = apart w on in let e = one w in omega (arith, ints)),
    )
