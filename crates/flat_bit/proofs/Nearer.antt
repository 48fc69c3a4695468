-- What is nearer than a distance: by other denominators, by a greater distance, and over two ways.
use Rattle.std.proofs.Common.{◌≡◌, ℤ, pos, ◌+ℤ◌, ◌-ℤ◌, ◌*ℤ◌, ◌≤ℤ◌, ◌<ℤ◌, [], ◌∷◌, arith, ap, ap₂, subst, sym, ◌∙◌}
use Rattle.std.proofs.lemmas.Int.{ints}
use Rattle.integer_algebra.proofs.Order.{cancel_lt, root_le, square_le, square_nonneg, times_le, times_lt, times_mono, times_nonneg, times_pos}
use Rattle.integer_algebra.proofs.Ring.{ring, V, K, ◌⊕◌, ◌⊖◌, ◌⊗◌}
use Rattle.plane_exact.specs.Distance.{IsCloser, scaled_distance, square}
use Rattle.plane_exact.specs.Plane.{RationalPoint}

-- a way shorter than r / d, by two denominators
pub shorter_by : (r d c o x y u v : ℤ) → pos 0 <ℤ c → c *ℤ x ≡ o *ℤ u → c *ℤ y ≡ o *ℤ v
    → ((square x +ℤ square y) *ℤ square d) <ℤ (square r *ℤ square o) → ((square u +ℤ square v) *ℤ square d) <ℤ (square r *ℤ square c)
shorter_by r d c o x y u v some along across short =
    let grown = times_lt (square c) _ _ (times_pos c c some some) short in
    let left : square c *ℤ ((square x +ℤ square y) *ℤ square d) ≡ square o *ℤ ((square u +ℤ square v) *ℤ square d) =
    ring (c ∷ x ∷ y ∷ d ∷ []) ((V 0 ⊗ V 0) ⊗ ((V 1 ⊗ V 1 ⊕ V 2 ⊗ V 2) ⊗ (V 3 ⊗ V 3))) (((V 0 ⊗ V 1) ⊗ (V 0 ⊗ V 1) ⊕ (V 0 ⊗ V 2) ⊗ (V 0 ⊗ V 2)) ⊗ (V 3 ⊗ V 3)) tt
    ∙ ap₂ (λ a b. (square a +ℤ square b) *ℤ square d) along across
    ∙ ring (o ∷ u ∷ v ∷ d ∷ []) (((V 0 ⊗ V 1) ⊗ (V 0 ⊗ V 1) ⊕ (V 0 ⊗ V 2) ⊗ (V 0 ⊗ V 2)) ⊗ (V 3 ⊗ V 3)) ((V 0 ⊗ V 0) ⊗ ((V 1 ⊗ V 1 ⊕ V 2 ⊗ V 2) ⊗ (V 3 ⊗ V 3))) tt in
    let right = ring (c ∷ r ∷ o ∷ []) ((V 0 ⊗ V 0) ⊗ ((V 1 ⊗ V 1) ⊗ (V 2 ⊗ V 2))) ((V 2 ⊗ V 2) ⊗ ((V 1 ⊗ V 1) ⊗ (V 0 ⊗ V 0))) tt in
    cancel_lt (square o) _ _ (square_nonneg o) (omega (arith, ints))

-- ---- over two ways

-- the sum of a way shorter than f and one shorter than g is shorter than both numbers together
shorter_sum : (f g x y v w : ℤ) → pos 0 ≤ℤ f → pos 0 ≤ℤ g → (x *ℤ x +ℤ y *ℤ y) <ℤ (f *ℤ f) → (v *ℤ v +ℤ w *ℤ w) <ℤ (g *ℤ g)
    → ((x +ℤ v) *ℤ (x +ℤ v) +ℤ (y +ℤ w) *ℤ (y +ℤ w)) <ℤ ((f +ℤ g) *ℤ (f +ℤ g))
shorter_sum f g x y v w f_sign g_sign first second =
    let xx = square_nonneg x in
    let yy = square_nonneg y in
    let vv = square_nonneg v in
    let ww = square_nonneg w in
    let product = times_mono (x *ℤ x +ℤ y *ℤ y) (f *ℤ f) (v *ℤ v +ℤ w *ℤ w) (g *ℤ g) (omega (arith, ints)) (omega (arith, ints)) (omega (arith, ints)) (omega (arith, ints)) in
    let split = ring (x ∷ y ∷ v ∷ w ∷ []) ((V 0 ⊗ V 0 ⊕ V 1 ⊗ V 1) ⊗ (V 2 ⊗ V 2 ⊕ V 3 ⊗ V 3))
    ((V 0 ⊗ V 2 ⊕ V 1 ⊗ V 3) ⊗ (V 0 ⊗ V 2 ⊕ V 1 ⊗ V 3) ⊕ (V 0 ⊗ V 3 ⊖ V 1 ⊗ V 2) ⊗ (V 0 ⊗ V 3 ⊖ V 1 ⊗ V 2)) tt in
    let turn = square_nonneg (x *ℤ w -ℤ y *ℤ v) in
    let most = ring (f ∷ g ∷ []) ((V 0 ⊗ V 0) ⊗ (V 1 ⊗ V 1)) ((V 0 ⊗ V 1) ⊗ (V 0 ⊗ V 1)) tt in
    let along = root_le (x *ℤ v +ℤ y *ℤ w) (f *ℤ g) (omega (arith, ints)) (times_nonneg f g f_sign g_sign) in
    let left = ring (x ∷ y ∷ v ∷ w ∷ []) ((V 0 ⊕ V 2) ⊗ (V 0 ⊕ V 2) ⊕ (V 1 ⊕ V 3) ⊗ (V 1 ⊕ V 3))
    ((V 0 ⊗ V 0 ⊕ V 1 ⊗ V 1) ⊕ (V 2 ⊗ V 2 ⊕ V 3 ⊗ V 3) ⊕ K (pos 2) ⊗ (V 0 ⊗ V 2 ⊕ V 1 ⊗ V 3)) tt in
    let right = ring (f ∷ g ∷ []) ((V 0 ⊕ V 1) ⊗ (V 0 ⊕ V 1)) (V 0 ⊗ V 0 ⊕ V 1 ⊗ V 1 ⊕ K (pos 2) ⊗ (V 0 ⊗ V 1)) tt in
    omega (arith, ints)

-- from a place over m by one over n to one over o
by_two : (f g s m n o x y v w a b : ℤ) → pos 0 ≤ℤ f → pos 0 ≤ℤ g → pos 0 <ℤ s → pos 0 <ℤ m → pos 0 <ℤ n → pos 0 <ℤ o
    → n *ℤ a ≡ o *ℤ x +ℤ m *ℤ v → n *ℤ b ≡ o *ℤ y +ℤ m *ℤ w
    → ((square x +ℤ square y) *ℤ square (pos 1)) <ℤ (square f *ℤ square (m *ℤ n)) → ((square v +ℤ square w) *ℤ square s) <ℤ (square g *ℤ square (n *ℤ o))
    → ((square a +ℤ square b) *ℤ square s) <ℤ (square (f *ℤ s +ℤ g) *ℤ square (m *ℤ o))
by_two f g s m n o x y v w a b f_sign g_sign s_some m_some n_some o_some across up first second =
    let c = s *ℤ o in
    let c_some = times_pos s o s_some o_some in
    let mn_some = times_pos m n m_some n_some in
    let no_some = times_pos n o n_some o_some in
    let F = c *ℤ (f *ℤ (m *ℤ n)) in
    let G = m *ℤ (g *ℤ (n *ℤ o)) in
    let F_sign : pos 0 ≤ℤ F = times_nonneg c (f *ℤ (m *ℤ n)) (omega (arith, ints)) (times_nonneg f (m *ℤ n) f_sign (omega (arith, ints))) in
    let G_sign : pos 0 ≤ℤ G = times_nonneg m (g *ℤ (n *ℤ o)) (omega (arith, ints)) (times_nonneg g (n *ℤ o) g_sign (omega (arith, ints))) in
    let from = times_lt (c *ℤ c) _ _ (times_pos c c c_some c_some) first in
    let from_left = ring (c ∷ x ∷ y ∷ []) ((V 0 ⊗ V 0) ⊗ ((V 1 ⊗ V 1 ⊕ V 2 ⊗ V 2) ⊗ (K (pos 1) ⊗ K (pos 1)))) ((V 0 ⊗ V 1) ⊗ (V 0 ⊗ V 1) ⊕ (V 0 ⊗ V 2) ⊗ (V 0 ⊗ V 2)) tt in
    let from_right = ring (c ∷ f ∷ m ∷ n ∷ []) ((V 0 ⊗ V 0) ⊗ ((V 1 ⊗ V 1) ⊗ ((V 2 ⊗ V 3) ⊗ (V 2 ⊗ V 3)))) ((V 0 ⊗ (V 1 ⊗ (V 2 ⊗ V 3))) ⊗ (V 0 ⊗ (V 1 ⊗ (V 2 ⊗ V 3)))) tt in
    let to = times_lt (m *ℤ m) _ _ (times_pos m m m_some m_some) second in
    let to_left = ring (m ∷ s ∷ v ∷ w ∷ []) ((V 0 ⊗ V 0) ⊗ ((V 2 ⊗ V 2 ⊕ V 3 ⊗ V 3) ⊗ (V 1 ⊗ V 1)))
    (((V 0 ⊗ V 1) ⊗ V 2) ⊗ ((V 0 ⊗ V 1) ⊗ V 2) ⊕ ((V 0 ⊗ V 1) ⊗ V 3) ⊗ ((V 0 ⊗ V 1) ⊗ V 3)) tt in
    let to_right = ring (m ∷ g ∷ n ∷ o ∷ []) ((V 0 ⊗ V 0) ⊗ ((V 1 ⊗ V 1) ⊗ ((V 2 ⊗ V 3) ⊗ (V 2 ⊗ V 3)))) ((V 0 ⊗ (V 1 ⊗ (V 2 ⊗ V 3))) ⊗ (V 0 ⊗ (V 1 ⊗ (V 2 ⊗ V 3)))) tt in
    let d = m *ℤ s in
    let whole = shorter_sum F G (c *ℤ x) (c *ℤ y) (d *ℤ v) (d *ℤ w) F_sign G_sign (omega (arith, ints)) (omega (arith, ints)) in
    let there : ((s *ℤ (n *ℤ a)) *ℤ (s *ℤ (n *ℤ a)) +ℤ (s *ℤ (n *ℤ b)) *ℤ (s *ℤ (n *ℤ b))) <ℤ ((F +ℤ G) *ℤ (F +ℤ G)) =
    subst (λ z. z <ℤ ((F +ℤ G) *ℤ (F +ℤ G))) (ap₂ (λ y z. y *ℤ y +ℤ z *ℤ z) (joined a x v across) (joined b y w up)) whole in
    let left = ring (n ∷ a ∷ b ∷ s ∷ []) ((V 0 ⊗ V 0) ⊗ ((V 1 ⊗ V 1 ⊕ V 2 ⊗ V 2) ⊗ (V 3 ⊗ V 3)))
    ((V 3 ⊗ (V 0 ⊗ V 1)) ⊗ (V 3 ⊗ (V 0 ⊗ V 1)) ⊕ (V 3 ⊗ (V 0 ⊗ V 2)) ⊗ (V 3 ⊗ (V 0 ⊗ V 2))) tt in
    let both = (V 2 ⊗ V 5) ⊗ (V 0 ⊗ (V 3 ⊗ V 4)) ⊕ V 3 ⊗ (V 1 ⊗ (V 4 ⊗ V 5)) in
    let right = ring (f ∷ g ∷ s ∷ m ∷ n ∷ o ∷ []) ((V 4 ⊗ V 4) ⊗ (((V 0 ⊗ V 2 ⊕ V 1) ⊗ (V 0 ⊗ V 2 ⊕ V 1)) ⊗ ((V 3 ⊗ V 5) ⊗ (V 3 ⊗ V 5)))) (both ⊗ both) tt in
    cancel_lt (n *ℤ n) _ _ (square_nonneg n) (omega (arith, ints))
  where
    joined : (a x v : ℤ) → n *ℤ a ≡ o *ℤ x +ℤ m *ℤ v → (s *ℤ o) *ℤ x +ℤ (m *ℤ s) *ℤ v ≡ s *ℤ (n *ℤ a)
    joined a x v is =
        ring (s ∷ o ∷ x ∷ m ∷ v ∷ []) ((V 0 ⊗ V 1) ⊗ V 2 ⊕ (V 3 ⊗ V 0) ⊗ V 4) (V 0 ⊗ (V 1 ⊗ V 2 ⊕ V 3 ⊗ V 4)) tt ∙ ap (λ z. s *ℤ z) (sym is)

-- a point nearer than g / s to one that is nearer than f
pub closer_by_two : (f g s : ℤ) (u w v : RationalPoint) → pos 0 ≤ℤ f → pos 0 ≤ℤ g → pos 0 <ℤ s → IsCloser f (pos 1) u w → IsCloser g s w v → IsCloser (f *ℤ s +ℤ g) s u v
closer_by_two f g s u w v f_sign g_sign s_some first second =
    let u_over = u.positive in
    let w_over = w.positive in
    let v_over = v.positive in
    by_two f g s u.over w.over v.over _ _ _ _ _ _ f_sign g_sign s_some (omega (arith, ints)) (omega (arith, ints)) (omega (arith, ints))
    (ways u.x u.over w.x w.over v.x v.over) (ways u.y u.over w.y w.over v.y v.over) first second
  where
    ways : (u m w n v o : ℤ) → n *ℤ (v *ℤ m -ℤ u *ℤ o) ≡ o *ℤ (w *ℤ m -ℤ u *ℤ n) +ℤ m *ℤ (v *ℤ n -ℤ w *ℤ o)
    ways u m w n v o =
        ring (u ∷ m ∷ w ∷ n ∷ v ∷ o ∷ []) (V 3 ⊗ (V 4 ⊗ V 1 ⊖ V 0 ⊗ V 5)) (V 5 ⊗ (V 2 ⊗ V 1 ⊖ V 0 ⊗ V 3) ⊕ V 1 ⊗ (V 4 ⊗ V 3 ⊖ V 2 ⊗ V 5)) tt

-- ---- a greater distance

pub closer_farther : (r more d : ℤ) (v w : RationalPoint) → pos 0 ≤ℤ r → pos 0 <ℤ d → (r *ℤ d) ≤ℤ more → IsCloser r (pos 1) v w → IsCloser more d v w
closer_farther r more d v w r_sign d_some greater close =
    let o = v.over *ℤ w.over in
    let D = scaled_distance v w in
    let grown = times_lt (d *ℤ d) _ _ (times_pos d d d_some d_some) close in
    let left = ring (D ∷ d ∷ []) ((V 1 ⊗ V 1) ⊗ (V 0 ⊗ (K (pos 1) ⊗ K (pos 1)))) (V 0 ⊗ (V 1 ⊗ V 1)) tt in
    let mid = ring (r ∷ d ∷ o ∷ []) ((V 1 ⊗ V 1) ⊗ ((V 0 ⊗ V 0) ⊗ (V 2 ⊗ V 2))) ((V 2 ⊗ V 2) ⊗ ((V 0 ⊗ V 1) ⊗ (V 0 ⊗ V 1))) tt in
    let least = times_nonneg r d r_sign (omega (arith, ints)) in
    let most = times_le (o *ℤ o) _ _ (square_nonneg o) (square_le (r *ℤ d) more least greater) in
    let right = ring (more ∷ o ∷ []) ((V 1 ⊗ V 1) ⊗ (V 0 ⊗ V 0)) ((V 0 ⊗ V 0) ⊗ (V 1 ⊗ V 1)) tt in
    omega (arith, ints)
