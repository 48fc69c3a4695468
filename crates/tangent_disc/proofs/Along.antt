-- The centres of the discs at a contact, up to a free one, are all inside or none is: the way between them lies in the free disc.
use Rattle.std.proofs.Common.{◌≡◌, ◌↔◌, ℕ, ◌≤◌, List, [], ◌∷◌, ℤ, pos, ◌+ℤ◌, ◌-ℤ◌, ◌*ℤ◌, ◌≤ℤ◌, ◌<ℤ◌, arith, ap, ap₂, refl, sym, ◌∙◌}
use Rattle.std.proofs.lemmas.Int.{ints, by_lt_z}
use Rattle.integer_algebra.proofs.Ring.{ring, V, K, ◌⊕◌, ◌⊖◌, ◌⊗◌}
use Rattle.integer_algebra.proofs.Order.{cancel_lt, cancel_same, square_nonneg, squares_zero, times_le, times_lt, times_pos}
use Rattle.plane_exact.specs.Distance.{square}
use Rattle.plane_exact.specs.Plane.{GridPoint, RationalPoint}
use Rattle.engrave_model.specs.Drawing.{edges_of}
use Rattle.engrave_model.specs.Inside.{IsInside}
use Rattle.evenodd_region.specs.Parity.{IsPathFree}
use Rattle.evenodd_region.proofs.Answered.{answered}
use Rattle.evenodd_region.proofs.Rounds.{parity}
use Rattle.tangent_disc.specs.Tangent.{IsCentreInside, IsEdgePoint, IsFree, IsGreatestFree, IsRefused, IsTaken, centre_over, centre_x, centre_y, normal, point_x, point_y, way_x, way_y}
use Rattle.tangent_disc.specs.declared.disc.Side.{Side}
use Rattle.tangent_disc.specs.declared.edge_point.EdgePoint.{EdgePoint}
use Rattle.tangent_disc.proofs.Free.{less_free_is}

-- ---- a point on the way between two centres

module _ (L n mx my o N T : ℤ) (j : ℤ) (x y : ℤ) where
  abbrev S : ℤ
  S = N *ℤ L

  abbrev A : ℤ
  A = o *ℤ (T *ℤ n)

  abbrev M : ℤ
  M = square mx +ℤ square my

  abbrev near : ℤ
  near = L *ℤ (square x +ℤ square y)

  abbrev ahead : ℤ
  ahead = pos 2 *ℤ (j *ℤ ((n *ℤ o) *ℤ (mx *ℤ x +ℤ my *ℤ y)))

  -- it is touched, where it is T / N steps from the contact, and T / N is at most j
  touched_on : pos 1 ≤ℤ L → pos 1 ≤ℤ n → pos 1 ≤ℤ o → pos 1 ≤ℤ N → pos 1 ≤ℤ T → pos 0 <ℤ M → T ≤ℤ (N *ℤ j) → S *ℤ x ≡ A *ℤ mx → S *ℤ y ≡ A *ℤ my → near <ℤ ahead
  touched_on L_some n_some o_some N_some T_some long within across up =
      let no = times_pos n o (omega (arith, ints)) (omega (arith, ints)) in
      let P = (n *ℤ o) *ℤ L in
      let P_pos = times_pos (n *ℤ o) L no (omega (arith, ints)) in
      let A_pos = times_pos o (T *ℤ n) (omega (arith, ints)) (times_pos T n (omega (arith, ints)) (omega (arith, ints))) in
      let Q = A *ℤ M in
      let Q_pos = times_pos A M A_pos long in
      let less = times_lt P T (pos 2 *ℤ (N *ℤ j)) P_pos (omega (arith, ints)) in
      let more = times_lt Q (P *ℤ T) (P *ℤ (pos 2 *ℤ (N *ℤ j))) Q_pos less in
      let xs = L ∷ n ∷ mx ∷ my ∷ o ∷ N ∷ T ∷ j ∷ x ∷ y ∷ [] in
      let tA = V 4 ⊗ (V 6 ⊗ V 1) in
      let tS = V 5 ⊗ V 0 in
      let tM = V 2 ⊗ V 2 ⊕ V 3 ⊗ V 3 in
      let left : square S *ℤ near ≡ Q *ℤ (P *ℤ T) =
      ring xs ((tS ⊗ tS) ⊗ (V 0 ⊗ (V 8 ⊗ V 8 ⊕ V 9 ⊗ V 9))) (V 0 ⊗ ((tS ⊗ V 8) ⊗ (tS ⊗ V 8) ⊕ (tS ⊗ V 9) ⊗ (tS ⊗ V 9))) tt
      ∙ ap (λ z. L *ℤ z) (ap₂ (λ u v. square u +ℤ square v) across up)
      ∙ ring xs (V 0 ⊗ ((tA ⊗ V 2) ⊗ (tA ⊗ V 2) ⊕ (tA ⊗ V 3) ⊗ (tA ⊗ V 3))) ((tA ⊗ tM) ⊗ (((V 1 ⊗ V 4) ⊗ V 0) ⊗ V 6)) tt in
      let right : square S *ℤ ahead ≡ Q *ℤ (P *ℤ (pos 2 *ℤ (N *ℤ j))) =
      ring xs ((tS ⊗ tS) ⊗ (K (pos 2) ⊗ (V 7 ⊗ ((V 1 ⊗ V 4) ⊗ (V 2 ⊗ V 8 ⊕ V 3 ⊗ V 9))))) ((K (pos 2) ⊗ (V 7 ⊗ ((V 1 ⊗ V 4) ⊗ tS))) ⊗ (V 2 ⊗ (tS ⊗ V 8) ⊕ V 3 ⊗ (tS ⊗ V 9))) tt
      ∙ ap (λ z. (pos 2 *ℤ (j *ℤ ((n *ℤ o) *ℤ S))) *ℤ z) (ap₂ (λ u v. mx *ℤ u +ℤ my *ℤ v) across up)
      ∙ ring xs ((K (pos 2) ⊗ (V 7 ⊗ ((V 1 ⊗ V 4) ⊗ tS))) ⊗ (V 2 ⊗ (tA ⊗ V 2) ⊕ V 3 ⊗ (tA ⊗ V 3))) ((tA ⊗ tM) ⊗ (((V 1 ⊗ V 4) ⊗ V 0) ⊗ (K (pos 2) ⊗ (V 5 ⊗ V 7)))) tt in
      cancel_lt (square S) near ahead (square_nonneg S) (omega (arith, ints))

-- one coordinate of the way to such a point, from where it lies between the centres i and j
step_at : (L n c m o N k i j u : ℤ) → pos 1 ≤ℤ n → pos 1 ≤ℤ L
    → (N *ℤ ((n *ℤ L) *ℤ (n *ℤ L))) *ℤ u ≡ o *ℤ ((N -ℤ k) *ℤ ((n *ℤ L) *ℤ (L *ℤ c +ℤ i *ℤ (n *ℤ m))) +ℤ k *ℤ ((n *ℤ L) *ℤ (L *ℤ c +ℤ j *ℤ (n *ℤ m))))
    → (N *ℤ L) *ℤ (n *ℤ u -ℤ o *ℤ c) ≡ (o *ℤ (((N -ℤ k) *ℤ i +ℤ k *ℤ j) *ℤ n)) *ℤ m
step_at L n c m o N k i j u n_some L_some on =
    let O = times_pos n L (omega (arith, ints)) (omega (arith, ints)) in
    let xs = L ∷ n ∷ c ∷ m ∷ o ∷ N ∷ k ∷ i ∷ j ∷ u ∷ [] in
    let O_is = V 1 ⊗ V 0 in
    cancel_same (n *ℤ L) _ _ O
    (ring xs (O_is ⊗ ((V 5 ⊗ V 0) ⊗ (V 1 ⊗ V 9 ⊖ V 4 ⊗ V 2))) ((V 5 ⊗ (O_is ⊗ O_is)) ⊗ V 9 ⊖ O_is ⊗ ((V 5 ⊗ V 0) ⊗ (V 4 ⊗ V 2))) tt
    ∙ ap (λ z. z -ℤ (n *ℤ L) *ℤ ((N *ℤ L) *ℤ (o *ℤ c))) on
    ∙ ring xs (V 4 ⊗ ((V 5 ⊖ V 6) ⊗ (O_is ⊗ (V 0 ⊗ V 2 ⊕ V 7 ⊗ (V 1 ⊗ V 3))) ⊕ V 6 ⊗ (O_is ⊗ (V 0 ⊗ V 2 ⊕ V 8 ⊗ (V 1 ⊗ V 3)))) ⊖ O_is ⊗ ((V 5 ⊗ V 0) ⊗ (V 4 ⊗ V 2)))
    (O_is ⊗ ((V 4 ⊗ (((V 5 ⊖ V 6) ⊗ V 7 ⊕ V 6 ⊗ V 8) ⊗ V 1)) ⊗ V 3)) tt)

module _ (loops : List (List GridPoint)) (side : Side) (p : EdgePoint) (range : IsEdgePoint p) where
  over_positive : pos 1 ≤ℤ centre_over p
  over_positive =
      let n_some = range.pieces.low in
      let some = range.long.low in
      let h = times_pos p.n p.length (omega (arith, ints)) (omega (arith, ints)) in
      omega (arith, ints)

  abbrev centre : ℕ → RationalPoint
  centre j = record { x = centre_x side p j; y = centre_y side p j; over = centre_over p; positive = over_positive }

  abbrev long : ℤ
  long = square (normal side p.edge).x +ℤ square (normal side p.edge).y

  -- the way from the centre i to the free centre j meets no edge
  way_free : (i j : ℕ) → 1 ≤ i → i ≤ j → pos 0 <ℤ long → IsFree (edges_of loops) side p j → IsPathFree (edges_of loops) (centre i) (centre j)
  unfolding IsFree
  way_free i j some below normal_long free u on out =
      let n_some = range.pieces.low in
      let length_some = range.long.low in
      let N = on.at.n in
      let k = on.at.k in
      let start = on.at.start in
      let finish = on.at.finish in
      let N_some = on.at.some in
      let u_some = u.positive in
      let T = (N -ℤ k) *ℤ pos i +ℤ k *ℤ pos j in
      let first = times_le (N -ℤ k) (pos i) (pos j) (omega (arith, ints)) (omega (arith, ints)) in
      let least = times_le (N -ℤ k) (pos 1) (pos i) (omega (arith, ints)) (omega (arith, ints)) in
      let last = times_le k (pos 1) (pos j) start (omega (arith, ints)) in
      let whole = ring (N ∷ k ∷ pos j ∷ []) ((V 0 ⊖ V 1) ⊗ V 2 ⊕ V 1 ⊗ V 2) (V 0 ⊗ V 2) tt in
      free u out (touched_on p.length p.n (normal side p.edge).x (normal side p.edge).y u.over N T (pos j) (way_x p u) (way_y p u) length_some n_some u_some N_some
      (omega (arith, ints)) normal_long (omega (arith, ints))
      (step_at p.length p.n (point_x p) (normal side p.edge).x u.over N k (pos i) (pos j) u.x n_some length_some on.across)
      (step_at p.length p.n (point_y p) (normal side p.edge).y u.over N k (pos i) (pos j) u.y n_some length_some on.up))

  -- a centre as a definition names it
  named : (j : ℕ) → IsInside (edges_of loops) (centre j) ↔ IsCentreInside (edges_of loops) side p j
  named j = (
    (λ inside. record { centre = centre j; is = record { same_x = refl; same_y = refl; same_over = refl }; inside = inside }),
    (λ inside. (answered (IsInside (edges_of loops) inside.centre) (edges_of loops) (edges_of loops) inside.centre (centre j) refl
        (sym inside.is.same_x) (sym inside.is.same_y) (sym inside.is.same_over) ((λ h. h), (λ h. h))).0 inside.inside),
  )

  -- up to a free disc, one centre is inside where another is
  pub inside_along : (i j : ℕ) → 1 ≤ i → i ≤ j → IsFree (edges_of loops) side p j → IsCentreInside (edges_of loops) side p i ↔ IsCentreInside (edges_of loops) side p j
  inside_along i j some below free = by_lt_z (pos 0) long
      (λ normal_long. let law = parity loops (centre i) (centre j) (way_free i j some below normal_long free) in (
        (λ inside. (named j).0 (law.0 ((named i).1 inside))),
        (λ inside. (named i).0 (law.1 ((named j).1 inside))),
      ))
      (λ none. let parts = squares_zero (normal side p.edge).x (normal side p.edge).y none in (moved i j parts.0 parts.1, moved j i parts.0 parts.1))
    where
      stays : (c m : ℤ) → m ≡ pos 0 → (a b : ℤ) → p.length *ℤ c +ℤ a *ℤ (p.n *ℤ m) ≡ p.length *ℤ c +ℤ b *ℤ (p.n *ℤ m)
      stays c m none a b = ap (λ z. p.length *ℤ c +ℤ a *ℤ (p.n *ℤ z)) none
          ∙ ring (p.length ∷ c ∷ a ∷ b ∷ p.n ∷ []) (V 0 ⊗ V 1 ⊕ V 2 ⊗ (V 4 ⊗ K (pos 0))) (V 0 ⊗ V 1 ⊕ V 3 ⊗ (V 4 ⊗ K (pos 0))) tt
          ∙ ap (λ z. p.length *ℤ c +ℤ b *ℤ (p.n *ℤ z)) (sym none)

      moved : (a b : ℕ) → (normal side p.edge).x ≡ pos 0 → (normal side p.edge).y ≡ pos 0 → IsCentreInside (edges_of loops) side p a → IsCentreInside (edges_of loops) side p b
      moved a b x y inside = record {
        centre = inside.centre;
        is = record {
          same_x = inside.is.same_x ∙ stays (point_x p) _ x (pos a) (pos b);
          same_y = inside.is.same_y ∙ stays (point_y p) _ y (pos a) (pos b);
          same_over = inside.is.same_over;
        };
        inside = inside.inside;
      }

-- ---- the side, by a small disc

module _ (loops : List (List GridPoint)) (side : Side) (p : EdgePoint) (range : IsEdgePoint p) (first rmax small : ℕ) (one : 1 ≤ first) (below : first ≤ rmax)
    (found : IsGreatestFree (edges_of loops) side p first small) where
  small_below : (j : ℕ) → IsGreatestFree (edges_of loops) side p rmax j → small ≤ j
  small_below j greatest = let w = found.within in greatest.greatest small (omega arith) found.free

  -- no number is taken where none up to the first is free
  pub refused_by_none : small ≤ 0 → IsRefused (edges_of loops) side p rmax
  refused_by_none none i taken =
      let some = range.long.low in
      let least = found.greatest 1 one (less_free_is (edges_of loops) side p (omega (arith, ints)) 1 i taken.some taken.greatest.free) in
      absurd (omega arith)

  -- nor where the small disc's centre is outside
  pub refused_by_small : 1 ≤ small → ¬ IsCentreInside (edges_of loops) side p small → IsRefused (edges_of loops) side p rmax
  refused_by_small some outside i taken =
      outside ((inside_along loops side p range small i some (small_below i taken.greatest) taken.greatest.free).1 taken.inside)

  -- and where it is inside, the greatest number is taken
  pub taken_by_small : (j : ℕ) → 1 ≤ small → IsCentreInside (edges_of loops) side p small → IsGreatestFree (edges_of loops) side p rmax j → IsTaken (edges_of loops) side p rmax j
  taken_by_small j some inside greatest = record {
    greatest = greatest;
    some = let l = small_below j greatest in omega arith;
    inside = (inside_along loops side p range small j some (small_below j greatest) greatest.free).0 inside;
  }
