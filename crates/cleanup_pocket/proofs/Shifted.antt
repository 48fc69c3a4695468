-- A point that is near a place is near each other place on its row or column too, by as much more as the two are apart.
use Rattle.std.proofs.Common.{◌≡◌, ◌⊎◌, inl, inr, ℤ, pos, neg_ℤ, ◌+ℤ◌, ◌-ℤ◌, ◌*ℤ◌, ◌≤ℤ◌, ◌<ℤ◌, [], ◌∷◌, arith, subst}
use Rattle.std.proofs.lemmas.Int.{ints}
use Rattle.std.proofs.Math.IntN.{+ℤ_comm}
use Rattle.integer_algebra.specs.Ranges.{IsUpTo}
use Rattle.integer_algebra.proofs.Order.{cancel_lt, product_up_to, root_le, square_le, square_nonneg, square_up_to, times_le, times_lt, times_nonneg, times_pos, times_neg}
use Rattle.integer_algebra.proofs.Ring.{ring, V, K, ◌⊕◌, ◌⊖◌, ◌⊗◌}
use Rattle.plane_exact.specs.Distance.{IsCloser, square}
use Rattle.plane_exact.specs.Plane.{GridPoint, RationalPoint, rational}

-- ---- numbers

-- a way (u, v) shorter than r is shorter than r + m where its first part changes by at most m
lengthened : (r m u v s : ℤ) → pos 0 ≤ℤ r → pos 0 ≤ℤ m → IsUpTo m s → (u *ℤ u +ℤ v *ℤ v) <ℤ (r *ℤ r)
    → ((u +ℤ s) *ℤ (u +ℤ s) +ℤ v *ℤ v) <ℤ ((r +ℤ m) *ℤ (r +ℤ m))
lengthened r m u v s r_sign m_sign up short =
    let v_square = square_nonneg v in
    let right = root_le u r (omega (arith, ints)) r_sign in
    let turned = ring (u ∷ []) ((K (pos 0) ⊖ V 0) ⊗ (K (pos 0) ⊖ V 0)) (V 0 ⊗ V 0) tt in
    let left = root_le (pos 0 -ℤ u) r (omega (arith, ints)) r_sign in
    let within = product_up_to r m u s (record { low = omega (arith, ints); high = right }) up in
    let most = within.high in
    let part = square_up_to m s up in
    let first = ring (u ∷ s ∷ []) ((V 0 ⊕ V 1) ⊗ (V 0 ⊕ V 1)) (V 0 ⊗ V 0 ⊕ K (pos 2) ⊗ (V 0 ⊗ V 1) ⊕ V 1 ⊗ V 1) tt in
    let second = ring (r ∷ m ∷ []) ((V 0 ⊕ V 1) ⊗ (V 0 ⊕ V 1)) (V 0 ⊗ V 0 ⊕ K (pos 2) ⊗ (V 0 ⊗ V 1) ⊕ V 1 ⊗ V 1) tt in
    omega (arith, ints)

-- a number times another that isn't negative keeps its range
scaled_up_to : (c m s : ℤ) → pos 0 ≤ℤ c → IsUpTo m s → IsUpTo (c *ℤ m) (c *ℤ s)
scaled_up_to c m s sign up =
    let below = times_le c (neg_ℤ m) s sign up.low in
    let turned = times_neg c m in
    record { low = omega (arith, ints); high = times_le c s m sign up.high }

-- one number of a place, and the same of a place that is s / n before it; c is den' den
part_moved : (c n s o a x : ℤ) → (c *ℤ (a *ℤ n -ℤ (n *ℤ x +ℤ s) *ℤ o)) +ℤ (c *ℤ o) *ℤ s ≡ c *ℤ (n *ℤ (a *ℤ pos 1 -ℤ x *ℤ o))
part_moved c n s o a x =
    ring (c ∷ n ∷ s ∷ o ∷ a ∷ x ∷ []) ((V 0 ⊗ (V 4 ⊗ V 1 ⊖ (V 1 ⊗ V 5 ⊕ V 2) ⊗ V 3)) ⊕ (V 0 ⊗ V 3) ⊗ V 2) (V 0 ⊗ (V 1 ⊗ (V 4 ⊗ K (pos 1) ⊖ V 5 ⊗ V 3))) tt

part_kept : (c n o b y : ℤ) → c *ℤ (b *ℤ n -ℤ (n *ℤ y) *ℤ o) ≡ c *ℤ (n *ℤ (b *ℤ pos 1 -ℤ y *ℤ o))
part_kept c n o b y = ring (c ∷ n ∷ o ∷ b ∷ y ∷ []) (V 0 ⊗ (V 3 ⊗ V 1 ⊖ (V 1 ⊗ V 4) ⊗ V 2)) (V 0 ⊗ (V 1 ⊗ (V 3 ⊗ K (pos 1) ⊖ V 4 ⊗ V 2))) tt

-- two radii num / den and more / per, and a way of at most m / n
pub record IsReaching (num den more per m n : ℤ) : Type 0 where
  pub num_sign : pos 0 ≤ℤ num
  pub den_sign : pos 0 <ℤ den
  pub per_sign : pos 0 <ℤ per
  pub m_sign : pos 0 ≤ℤ m
  pub n_sign : pos 0 <ℤ n
  -- num / den and m / n make at most more / per
  pub reach : (per *ℤ (num *ℤ n +ℤ den *ℤ m)) ≤ℤ (more *ℤ (den *ℤ n))

-- of a way (x, y), over o
near_moved : (num den more per m n s o a b x y : ℤ) → IsReaching num den more per m n → IsUpTo m s → pos 0 <ℤ o
    → ((square (a *ℤ n -ℤ (n *ℤ x +ℤ s) *ℤ o) +ℤ square (b *ℤ n -ℤ (n *ℤ y) *ℤ o)) *ℤ square den) <ℤ (square num *ℤ square (n *ℤ o))
    → ((square (a *ℤ pos 1 -ℤ x *ℤ o) +ℤ square (b *ℤ pos 1 -ℤ y *ℤ o)) *ℤ square per) <ℤ (square more *ℤ square (pos 1 *ℤ o))
near_moved num den more per m n s o a b x y is up o_some near =
    let c = per *ℤ den in
    let c_some = times_pos per den is.per_sign is.den_sign in
    let co_some = times_pos c o c_some o_some in
    let n_some = is.n_sign in
    let d_some = is.den_sign in
    let p_some = is.per_sign in
    let dn_some = times_pos den n d_some n_some in
    let U = a *ℤ n -ℤ (n *ℤ x +ℤ s) *ℤ o in
    let W = b *ℤ n -ℤ (n *ℤ y) *ℤ o in
    let X = a *ℤ pos 1 -ℤ x *ℤ o in
    let Y = b *ℤ pos 1 -ℤ y *ℤ o in
    let A = per *ℤ (num *ℤ (n *ℤ o)) in
    let M = (c *ℤ o) *ℤ m in
    let A_sign : pos 0 ≤ℤ A = times_nonneg per (num *ℤ (n *ℤ o)) (omega (arith, ints))
    (times_nonneg num (n *ℤ o) is.num_sign (let no = times_pos n o n_some o_some in omega (arith, ints))) in
    let M_sign : pos 0 ≤ℤ M = times_nonneg (c *ℤ o) m (omega (arith, ints)) is.m_sign in
    let scaled = times_lt (per *ℤ per) _ _ (times_pos per per p_some p_some) near in
    let left = ring (U ∷ W ∷ den ∷ per ∷ [])
    ((V 3 ⊗ V 3) ⊗ ((V 0 ⊗ V 0 ⊕ V 1 ⊗ V 1) ⊗ (V 2 ⊗ V 2)))
    (((V 3 ⊗ V 2) ⊗ V 0) ⊗ ((V 3 ⊗ V 2) ⊗ V 0) ⊕ ((V 3 ⊗ V 2) ⊗ V 1) ⊗ ((V 3 ⊗ V 2) ⊗ V 1)) tt in
    let right = ring (num ∷ n ∷ o ∷ per ∷ [])
    ((V 3 ⊗ V 3) ⊗ ((V 0 ⊗ V 0) ⊗ ((V 1 ⊗ V 2) ⊗ (V 1 ⊗ V 2))))
    ((V 3 ⊗ (V 0 ⊗ (V 1 ⊗ V 2))) ⊗ (V 3 ⊗ (V 0 ⊗ (V 1 ⊗ V 2)))) tt in
    let short : ((c *ℤ U) *ℤ (c *ℤ U) +ℤ (c *ℤ W) *ℤ (c *ℤ W)) <ℤ (A *ℤ A) = omega (arith, ints) in
    let longer = lengthened A M (c *ℤ U) (c *ℤ W) ((c *ℤ o) *ℤ s) A_sign M_sign (scaled_up_to (c *ℤ o) m s (omega (arith, ints)) up) short in
    let across = part_moved c n s o a x in
    let aside = part_kept c n o b y in
    let there : ((c *ℤ (n *ℤ X)) *ℤ (c *ℤ (n *ℤ X)) +ℤ (c *ℤ (n *ℤ Y)) *ℤ (c *ℤ (n *ℤ Y))) <ℤ ((A +ℤ M) *ℤ (A +ℤ M)) =
    subst (λ z. ((c *ℤ (n *ℤ X)) *ℤ (c *ℤ (n *ℤ X)) +ℤ z *ℤ z) <ℤ ((A +ℤ M) *ℤ (A +ℤ M))) aside
    (subst (λ z. (z *ℤ z +ℤ (c *ℤ W) *ℤ (c *ℤ W)) <ℤ ((A +ℤ M) *ℤ (A +ℤ M))) across longer) in
    let B = more *ℤ ((den *ℤ n) *ℤ o) in
    let reached = times_le o _ _ (omega (arith, ints)) is.reach in
    let first = ring (num ∷ den ∷ per ∷ m ∷ n ∷ o ∷ [])
    (V 5 ⊗ (V 2 ⊗ (V 0 ⊗ V 4 ⊕ V 1 ⊗ V 3))) (V 2 ⊗ (V 0 ⊗ (V 4 ⊗ V 5)) ⊕ ((V 2 ⊗ V 1) ⊗ V 5) ⊗ V 3) tt in
    let second = ring (more ∷ den ∷ n ∷ o ∷ []) (V 3 ⊗ (V 0 ⊗ (V 1 ⊗ V 2))) (V 0 ⊗ ((V 1 ⊗ V 2) ⊗ V 3)) tt in
    let far = square_le (A +ℤ M) B (omega (arith, ints)) (omega (arith, ints)) in
    let whole = ring (X ∷ Y ∷ den ∷ n ∷ per ∷ [])
    (((V 2 ⊗ V 3) ⊗ (V 2 ⊗ V 3)) ⊗ ((V 0 ⊗ V 0 ⊕ V 1 ⊗ V 1) ⊗ (V 4 ⊗ V 4)))
    (((V 4 ⊗ V 2) ⊗ (V 3 ⊗ V 0)) ⊗ ((V 4 ⊗ V 2) ⊗ (V 3 ⊗ V 0)) ⊕ ((V 4 ⊗ V 2) ⊗ (V 3 ⊗ V 1)) ⊗ ((V 4 ⊗ V 2) ⊗ (V 3 ⊗ V 1))) tt in
    let most = ring (more ∷ den ∷ n ∷ o ∷ [])
    (((V 1 ⊗ V 2) ⊗ (V 1 ⊗ V 2)) ⊗ ((V 0 ⊗ V 0) ⊗ ((K (pos 1) ⊗ V 3) ⊗ (K (pos 1) ⊗ V 3))))
    ((V 0 ⊗ ((V 1 ⊗ V 2) ⊗ V 3)) ⊗ (V 0 ⊗ ((V 1 ⊗ V 2) ⊗ V 3))) tt in
    cancel_lt ((den *ℤ n) *ℤ (den *ℤ n)) _ _ (square_nonneg (den *ℤ n)) (omega (arith, ints))

-- ---- points

-- the place v lies s / over beside the grid point p, along one axis
abbrev pub IsBeside : (v : RationalPoint) → (p : GridPoint) → (s : ℤ) → Type 0
IsBeside v p s =
    ((v.x ≡ v.over *ℤ p.x +ℤ s) × (v.y ≡ v.over *ℤ p.y)) ⊎ ((v.x ≡ v.over *ℤ p.x) × (v.y ≡ v.over *ℤ p.y +ℤ s))

pub closer_beside : (num den more per m s : ℤ) (v : RationalPoint) (p : GridPoint) (w : RationalPoint)
    → IsReaching num den more per m v.over → IsUpTo m s → IsBeside v p s → IsCloser num den v w → IsCloser more per (rational p) w
closer_beside num den more per m s v p w is up (inl beside) close =
    let o_some = w.positive in
    near_moved num den more per m v.over s w.over w.x w.y p.x p.y is up (omega (arith, ints))
    (subst (λ y. ((square (w.x *ℤ v.over -ℤ (v.over *ℤ p.x +ℤ s) *ℤ w.over) +ℤ square (w.y *ℤ v.over -ℤ y *ℤ w.over)) *ℤ square den) <ℤ (square num *ℤ square (v.over *ℤ w.over))) beside.1
    (subst (λ x. ((square (w.x *ℤ v.over -ℤ x *ℤ w.over) +ℤ square (w.y *ℤ v.over -ℤ v.y *ℤ w.over)) *ℤ square den) <ℤ (square num *ℤ square (v.over *ℤ w.over))) beside.0 close))
closer_beside num den more per m s v p w is up (inr beside) close =
    let o_some = w.positive in
    let turned = +ℤ_comm (square (w.x *ℤ v.over -ℤ (v.over *ℤ p.x) *ℤ w.over)) (square (w.y *ℤ v.over -ℤ (v.over *ℤ p.y +ℤ s) *ℤ w.over)) in
    let back = +ℤ_comm (square (w.y *ℤ pos 1 -ℤ p.y *ℤ w.over)) (square (w.x *ℤ pos 1 -ℤ p.x *ℤ w.over)) in
    subst (λ d. (d *ℤ square per) <ℤ (square more *ℤ square (pos 1 *ℤ w.over))) back
    (near_moved num den more per m v.over s w.over w.y w.x p.y p.x is up (omega (arith, ints))
    (subst (λ d. (d *ℤ square den) <ℤ (square num *ℤ square (v.over *ℤ w.over))) turned
    (subst (λ y. ((square (w.x *ℤ v.over -ℤ (v.over *ℤ p.x) *ℤ w.over) +ℤ square (w.y *ℤ v.over -ℤ y *ℤ w.over)) *ℤ square den) <ℤ (square num *ℤ square (v.over *ℤ w.over))) beside.1
    (subst (λ x. ((square (w.x *ℤ v.over -ℤ x *ℤ w.over) +ℤ square (w.y *ℤ v.over -ℤ v.y *ℤ w.over)) *ℤ square den) <ℤ (square num *ℤ square (v.over *ℤ w.over))) beside.0 close))))
