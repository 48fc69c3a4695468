-- What is free on a side of a contact: as an open disc, as lesser numbers, and edge by edge.
use Rattle.std.proofs.Common.{◌≡◌, ◌↔◌, ℕ, ◌≤◌, List, [], ◌∷◌, All, ℤ, pos, ◌+ℤ◌, ◌-ℤ◌, ◌*ℤ◌, ◌≤ℤ◌, ◌<ℤ◌, arith, ap, ap₂}
use Rattle.std.proofs.lemmas.Int.{ints, by_lt_z}
use Rattle.integer_algebra.proofs.Ring.{ring, V, K, ◌⊕◌, ◌⊖◌, ◌⊗◌}
use Rattle.integer_algebra.proofs.Order.{cancel_lt, sign_of_pos, square_nonneg, times_lt, times_mono, times_nonneg, zero_times}
use Rattle.plane_exact.specs.Distance.{square, scaled_distance}
use Rattle.plane_exact.specs.Plane.{RationalPoint}
use Rattle.plane_exact.specs.declared.point.Seg.{Seg}
use Rattle.engrave_model.proofs.Outline.{each_of_outline, outline_of_each}
use Rattle.tangent_disc.specs.Law.{LessFreeLaw}
use Rattle.tangent_disc.specs.OpenDisc.{IsOff}
use Rattle.tangent_disc.specs.Tangent.{IsFree, IsTouched, centre_over, centre_x, centre_y, normal, point_x, point_y, way_x, way_y}
use Rattle.tangent_disc.specs.Touch.{IsFreeOf}
use Rattle.tangent_disc.specs.declared.disc.Side.{Side}
use Rattle.tangent_disc.specs.declared.edge_point.EdgePoint.{EdgePoint}

-- ---- a disc that touches is an open disc

module _ (L n cx cy mx my j wx wy o : ℤ) where
  abbrev x : ℤ
  x = n *ℤ wx -ℤ o *ℤ cx

  abbrev y : ℤ
  y = n *ℤ wy -ℤ o *ℤ cy

  abbrev X : ℤ
  X = L *ℤ cx +ℤ j *ℤ (n *ℤ mx)

  abbrev Y : ℤ
  Y = L *ℤ cy +ℤ j *ℤ (n *ℤ my)

  -- the two sides of the test of [IsTouched], and those of the open disc
  abbrev near : ℤ
  near = L *ℤ (square x +ℤ square y)

  abbrev ahead : ℤ
  ahead = pos 2 *ℤ (j *ℤ ((n *ℤ o) *ℤ (mx *ℤ x +ℤ my *ℤ y)))

  abbrev distance : ℤ
  distance = square (wx *ℤ (n *ℤ L) -ℤ X *ℤ o) +ℤ square (wy *ℤ (n *ℤ L) -ℤ Y *ℤ o)

  abbrev reach : ℤ
  reach = square j *ℤ (square (n *ℤ mx) +ℤ square (n *ℤ my))

  split : distance -ℤ reach *ℤ square o ≡ L *ℤ near -ℤ L *ℤ ahead
  split =
      let tx = V 1 ⊗ V 7 ⊖ V 9 ⊗ V 2 in
      let ty = V 1 ⊗ V 8 ⊖ V 9 ⊗ V 3 in
      let tX = V 0 ⊗ V 2 ⊕ V 6 ⊗ (V 1 ⊗ V 4) in
      let tY = V 0 ⊗ V 3 ⊕ V 6 ⊗ (V 1 ⊗ V 5) in
      let dx = V 7 ⊗ (V 1 ⊗ V 0) ⊖ tX ⊗ V 9 in
      let dy = V 8 ⊗ (V 1 ⊗ V 0) ⊖ tY ⊗ V 9 in
      let nx = V 1 ⊗ V 4 in
      let ny = V 1 ⊗ V 5 in
      ring (L ∷ n ∷ cx ∷ cy ∷ mx ∷ my ∷ j ∷ wx ∷ wy ∷ o ∷ [])
      ((dx ⊗ dx ⊕ dy ⊗ dy) ⊖ ((V 6 ⊗ V 6) ⊗ (nx ⊗ nx ⊕ ny ⊗ ny)) ⊗ (V 9 ⊗ V 9))
      (V 0 ⊗ (V 0 ⊗ (tx ⊗ tx ⊕ ty ⊗ ty)) ⊖ V 0 ⊗ (K (pos 2) ⊗ (V 6 ⊗ ((V 1 ⊗ V 9) ⊗ (V 4 ⊗ tx ⊕ V 5 ⊗ ty))))) tt

  pub in_disc : pos 1 ≤ℤ L → near <ℤ ahead → distance <ℤ (reach *ℤ square o)
  in_disc long h = let p = times_lt L near ahead (omega (arith, ints)) h in let e = split in omega (arith, ints)

  pub in_touched : pos 1 ≤ℤ L → distance <ℤ (reach *ℤ square o) → near <ℤ ahead
  in_touched long h = let e = split in cancel_lt L near ahead (omega (arith, ints)) (omega (arith, ints))

module _ (side : Side) (p : EdgePoint) (long : pos 1 ≤ℤ p.length) (j : ℕ) (v : RationalPoint) (r : ℤ)
    (across : v.x ≡ centre_x side p j) (up : v.y ≡ centre_y side p j) (denominator : v.over ≡ centre_over p)
    (wide : r ≡ square (pos j) *ℤ (square (p.n *ℤ (normal side p.edge).x) +ℤ square (p.n *ℤ (normal side p.edge).y))) where
  module _ (w : RationalPoint) where
    same_distance : scaled_distance v w ≡ distance p.length p.n (point_x p) (point_y p) (normal side p.edge).x (normal side p.edge).y (pos j) w.x w.y w.over
    same_distance = ap₂ (λ a b. square a +ℤ square b)
        (ap₂ (λ a b. w.x *ℤ a -ℤ b *ℤ w.over) denominator across)
        (ap₂ (λ a b. w.y *ℤ a -ℤ b *ℤ w.over) denominator up)

    disc_of_touched : IsTouched side p j w → scaled_distance v w <ℤ (r *ℤ square w.over)
    disc_of_touched touched =
        let h = in_disc p.length p.n (point_x p) (point_y p) (normal side p.edge).x (normal side p.edge).y (pos j) w.x w.y w.over long touched in
        let e = same_distance in
        let f = ap (λ z. z *ℤ square w.over) wide in
        omega (arith, ints)

    touched_of_disc : scaled_distance v w <ℤ (r *ℤ square w.over) → IsTouched side p j w
    touched_of_disc within =
        let e = same_distance in
        let f = ap (λ z. z *ℤ square w.over) wide in
        in_touched p.length p.n (point_x p) (point_y p) (normal side p.edge).x (normal side p.edge).y (pos j) w.x w.y w.over long (omega (arith, ints))

  pub free_of_off : (e : Seg) → IsOff v r e ↔ IsFreeOf side p j e
  unfolding IsOff IsFreeOf
  free_of_off e = (
    (λ off w on touched. let within = disc_of_touched w touched in let far = off w on in absurd (omega (arith, ints))),
    (λ free w on. by_lt_z (scaled_distance v w) (r *ℤ square w.over) (λ within. absurd (free w on (touched_of_disc w within))) (λ far. far)),
  )

-- ---- lesser numbers

module _ (side : Side) (p : EdgePoint) (long : pos 0 ≤ℤ p.length) where
  more_touched : (i j : ℕ) → i ≤ j → (w : RationalPoint) → IsTouched side p i w → IsTouched side p j w
  more_touched i j below w touched =
      let T = (p.n *ℤ w.over) *ℤ ((normal side p.edge).x *ℤ way_x p w +ℤ (normal side p.edge).y *ℤ way_y p w) in
      let a = square_nonneg (way_x p w) in
      let b = square_nonneg (way_y p w) in
      let some = times_nonneg p.length (square (way_x p w) +ℤ square (way_y p w)) long (omega (arith, ints)) in
      let positive : pos 0 <ℤ (pos i *ℤ T) = omega (arith, ints) in
      let ahead = sign_of_pos (pos i) T (omega (arith, ints)) positive in
      let more = times_mono (pos i) (pos j) T T (omega (arith, ints)) (omega (arith, ints)) (omega (arith, ints)) (omega (arith, ints)) in
      omega (arith, ints)

  pub less_free_of : (e : Seg) (i j : ℕ) → i ≤ j → IsFreeOf side p j e → IsFreeOf side p i e
  unfolding IsFreeOf
  less_free_of e i j below free w on touched = free w on (more_touched i j below w touched)

  less_free : (edges : List Seg) (i j : ℕ) → i ≤ j → IsFree edges side p j → IsFree edges side p i
  unfolding IsFree
  less_free edges i j below free w on touched = free w on (more_touched i j below w touched)

  none_touched : (w : RationalPoint) → ¬ IsTouched side p 0 w
  none_touched w touched =
      let T = (p.n *ℤ w.over) *ℤ ((normal side p.edge).x *ℤ way_x p w +ℤ (normal side p.edge).y *ℤ way_y p w) in
      let a = square_nonneg (way_x p w) in
      let b = square_nonneg (way_y p w) in
      let some = times_nonneg p.length (square (way_x p w) +ℤ square (way_y p w)) long (omega (arith, ints)) in
      let none = zero_times T in
      omega (arith, ints)

  pub zero_free_of : (e : Seg) → IsFreeOf side p 0 e
  unfolding IsFreeOf
  zero_free_of e w on touched = none_touched w touched

pub less_free_is : LessFreeLaw
less_free_is edges side p long i j below free = less_free side p long edges i j below free

-- ---- edge by edge

module _ (edges : List Seg) (side : Side) (p : EdgePoint) (j : ℕ) where
  pub free_of_each : All (IsFreeOf side p j) edges → IsFree edges side p j
  unfolding IsFree IsFreeOf
  free_of_each = outline_of_each (λ w. ¬ IsTouched side p j w) edges

  pub each_of_free : IsFree edges side p j → All (IsFreeOf side p j) edges
  unfolding IsFree IsFreeOf
  each_of_free = each_of_outline (λ w. ¬ IsTouched side p j w) edges
