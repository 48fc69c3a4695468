-- What a straight move mills it mills from a point of its way, less deep than the deeper of its ends.
use Rattle.std.proofs.Common.{◌≡◌, ◌*◌, ℕ, ℤ, pos, neg_ℤ, ◌+ℤ◌, ◌-ℤ◌, ◌*ℤ◌, ◌≤ℤ◌, ◌<ℤ◌, [], ◌∷◌, arith, refl, ap₂, subst}
use Rattle.std.proofs.lemmas.Int.{ints}
use Rattle.integer_algebra.proofs.Order.{cancel_lt, mix_nonneg, times_le}
use Rattle.integer_algebra.proofs.Ring.{ring, V, K, ◌⊕◌, ◌⊖◌, ◌⊗◌}
use Rattle.plane_exact.specs.Distance.{IsCloser, square}
use Rattle.plane_exact.specs.Nodes.{place_over}
use Rattle.plane_exact.specs.Plane.{GridPoint, IsBetween, RationalPoint, rational}
use Rattle.plane_exact.specs.declared.moves.Move.{Move}
use Rattle.engrave_model.specs.Removal.{depth_at}
use Rattle.flat_bit.specs.Target.{Depth, Mills}
use Rattle.flat_bit.proofs.Nearer.{shorter_by}

-- ---- numbers

-- the way from the place at the moment k / n, in tenths, and from that place in grid units
way_in_tenths : (k n o a b w : ℤ) → pos 1 *ℤ ((pos 10 *ℤ w) *ℤ n -ℤ ((n -ℤ k) *ℤ (pos 10 *ℤ a) +ℤ k *ℤ (pos 10 *ℤ b)) *ℤ o) ≡ pos 10 *ℤ (w *ℤ n -ℤ (n *ℤ a +ℤ k *ℤ (b -ℤ a)) *ℤ o)
way_in_tenths k n o a b w =
    ring (k ∷ n ∷ o ∷ a ∷ b ∷ w ∷ []) (K (pos 1) ⊗ ((K (pos 10) ⊗ V 5) ⊗ V 1 ⊖ ((V 1 ⊖ V 0) ⊗ (K (pos 10) ⊗ V 3) ⊕ V 0 ⊗ (K (pos 10) ⊗ V 4)) ⊗ V 2))
    (K (pos 10) ⊗ (V 5 ⊗ V 1 ⊖ (V 1 ⊗ V 3 ⊕ V 0 ⊗ (V 4 ⊖ V 3)) ⊗ V 2)) tt

-- the tip is at no moment deeper than both ends may be
no_deeper : (h k depth i n : ℤ) → neg_ℤ depth ≤ℤ h → neg_ℤ depth ≤ℤ k → pos 0 ≤ℤ i → i ≤ℤ n
    → neg_ℤ ((n -ℤ i) *ℤ (pos 10 *ℤ h) +ℤ i *ℤ (pos 10 *ℤ k)) ≤ℤ (pos 10 *ℤ (depth *ℤ n))
no_deeper h k depth i n first last start finish =
    let mixed = mix_nonneg (n -ℤ i) i (h +ℤ depth) (k +ℤ depth) (omega (arith, ints)) start (omega (arith, ints)) (omega (arith, ints)) in
    let plain = ring (n ∷ i ∷ h ∷ k ∷ depth ∷ [])
    (((V 0 ⊖ V 1) ⊗ (K (pos 10) ⊗ V 2) ⊕ V 1 ⊗ (K (pos 10) ⊗ V 3)) ⊕ K (pos 10) ⊗ (V 4 ⊗ V 0))
    (K (pos 10) ⊗ ((V 0 ⊖ V 1) ⊗ (V 2 ⊕ V 4) ⊕ V 1 ⊗ (V 3 ⊕ V 4))) tt
    in
    omega (arith, ints)

-- what is less deep than the tip is less deep than that
less_deep : (t over n D depth : ℤ) → pos 1 ≤ℤ over → pos 1 ≤ℤ n → D ≤ℤ (pos 10 *ℤ (depth *ℤ n)) → (pos 10 *ℤ t *ℤ n) <ℤ (D *ℤ over) → t <ℤ (depth *ℤ over)
less_deep t over n D depth over_some n_some most below =
    let more = times_le over D _ (omega (arith, ints)) most in
    let turn = ring (D ∷ over ∷ []) (V 1 ⊗ V 0) (V 0 ⊗ V 1) tt in
    let left = ring (t ∷ n ∷ []) (K (pos 10) ⊗ V 0 ⊗ V 1) ((K (pos 10) ⊗ V 1) ⊗ V 0) tt in
    let right = ring (over ∷ depth ∷ n ∷ []) (V 0 ⊗ (K (pos 10) ⊗ (V 1 ⊗ V 2))) ((K (pos 10) ⊗ V 2) ⊗ (V 1 ⊗ V 0)) tt in
    cancel_lt (pos 10 *ℤ n) _ _ (omega (arith, ints)) (omega (arith, ints))

-- a tenth of a distance
tenth_shorter : (r o x y u v : ℤ) → pos 1 *ℤ x ≡ pos 10 *ℤ u → pos 1 *ℤ y ≡ pos 10 *ℤ v
    → ((square x +ℤ square y) *ℤ square (pos 1)) <ℤ (square (pos 10 *ℤ r) *ℤ square o) → ((square u +ℤ square v) *ℤ square (pos 1)) <ℤ (square r *ℤ square o)
tenth_shorter r o x y u v across up close =
    let e : x ≡ pos 10 *ℤ u = omega (arith, ints) in
    let f : y ≡ pos 10 *ℤ v = omega (arith, ints) in
    let there : ((square (pos 10 *ℤ u) +ℤ square (pos 10 *ℤ v)) *ℤ square (pos 1)) <ℤ (square (pos 10 *ℤ r) *ℤ square o) =
    subst (λ z. z <ℤ (square (pos 10 *ℤ r) *ℤ square o)) (ap₂ (λ x y. (square x +ℤ square y) *ℤ square (pos 1)) e f) close in
    let left = ring (u ∷ v ∷ []) (((K (pos 10) ⊗ V 0) ⊗ (K (pos 10) ⊗ V 0) ⊕ (K (pos 10) ⊗ V 1) ⊗ (K (pos 10) ⊗ V 1)) ⊗ (K (pos 1) ⊗ K (pos 1)))
    (K (pos 100) ⊗ ((V 0 ⊗ V 0 ⊕ V 1 ⊗ V 1) ⊗ (K (pos 1) ⊗ K (pos 1)))) tt in
    let right = ring (r ∷ o ∷ []) (((K (pos 10) ⊗ V 0) ⊗ (K (pos 10) ⊗ V 0)) ⊗ (V 1 ⊗ V 1)) (K (pos 100) ⊗ ((V 0 ⊗ V 0) ⊗ (V 1 ⊗ V 1))) tt in
    cancel_lt (pos 100) _ _ (omega (arith, ints)) (omega (arith, ints))

-- from a place that stays, by two denominators
same_way : (n k o p w : ℤ) → (pos 1 *ℤ o) *ℤ (w *ℤ n -ℤ (n *ℤ p +ℤ k *ℤ (p -ℤ p)) *ℤ o) ≡ (n *ℤ o) *ℤ (w *ℤ pos 1 -ℤ p *ℤ o)
same_way n k o p w =
    ring (n ∷ k ∷ o ∷ p ∷ w ∷ []) ((K (pos 1) ⊗ V 2) ⊗ (V 4 ⊗ V 0 ⊖ (V 0 ⊗ V 3 ⊕ V 1 ⊗ (V 3 ⊖ V 3)) ⊗ V 2)) ((V 0 ⊗ V 2) ⊗ (V 4 ⊗ K (pos 1) ⊖ V 3 ⊗ V 2)) tt

-- ---- moves

-- from a place at a height to another, in grid units
abbrev pub move_at : (a b : GridPoint) → (h k : ℤ) → Move
move_at a b h k = record { from = place_over a h; to = place_over b k }

-- the axis was nearer than the radius over a point of the way
pub record IsMilledFrom (radius : ℕ) (a b : GridPoint) (w : RationalPoint) : Type 0 where
  pub over : RationalPoint
  pub on : IsBetween a b over
  pub near : IsCloser (pos radius) (pos 1) over w

module _ (radius : ℕ) (w : RationalPoint) (depth : Depth) where
  pub milled_from : (a b : GridPoint) (h k : ℤ) → Mills radius w depth (move_at a b h k) → IsMilledFrom radius a b w
  milled_from a b h k mills =
      let s = mills.moment in
      let tens : pos (10 * radius) ≡ pos 10 *ℤ pos radius = omega (arith, ints) in record {
        over = record { x = s.n *ℤ a.x +ℤ s.k *ℤ (b.x -ℤ a.x); y = s.n *ℤ a.y +ℤ s.k *ℤ (b.y -ℤ a.y); over = s.n; positive = s.some };
        on = record { at = s; across = refl; up = refl };
        near =
            tenth_shorter (pos radius) (s.n *ℤ w.over) _ _ _ _ (way_in_tenths s.k s.n w.over a.x b.x w.x) (way_in_tenths s.k s.n w.over a.y b.y w.y) mills.milled.close;
      }

  -- of an upright move
  pub milled_over : (p : GridPoint) (h k : ℤ) → Mills radius w depth (move_at p p h k) → IsCloser (pos radius) (pos 1) (rational p) w
  unfolding milled_from
  milled_over p h k mills =
      let s = mills.moment in
      let w_over = w.positive in
      shorter_by (pos radius) (pos 1) (pos 1 *ℤ w.over) (s.n *ℤ w.over) _ _ _ _ (omega (arith, ints)) (same_way s.n s.k w.over p.x w.x) (same_way s.n s.k w.over p.y w.y)
      (milled_from p p h k mills).near

  pub milled_below : (a b : GridPoint) (h k : ℤ) (deepest : ℕ) → neg_ℤ (pos deepest) ≤ℤ h → neg_ℤ (pos deepest) ≤ℤ k → Mills radius w depth (move_at a b h k)
      → depth.t <ℤ (pos deepest *ℤ depth.over)
  milled_below a b h k deepest first last mills =
      let s = mills.moment in
      less_deep depth.t depth.over s.n (depth_at (move_at a b h k) s) (pos deepest) depth.positive s.some (no_deeper h k (pos deepest) s.k s.n first last s.start s.finish) mills.milled.below

  -- from the surface up nothing is milled
  pub mills_nothing : (a b : GridPoint) (h k : ℤ) → pos 0 ≤ℤ h → pos 0 ≤ℤ k → ¬ Mills radius w depth (move_at a b h k)
  mills_nothing a b h k first last mills =
      let below = milled_below a b h k 0 (omega (arith, ints)) (omega (arith, ints)) mills in
      let least = depth.least in
      omega (arith, ints)
