-- The quadratic over a part of the moments: it is negative at one of them, which is named, or passes the tests; and where it
-- passes them it is negative at none.
use Rattle.std.proofs.Common.{◌⊎◌, inl, inr, ℤ, pos, neg_ℤ, ◌+ℤ◌, ◌-ℤ◌, ◌*ℤ◌, ◌≤ℤ◌, ◌<ℤ◌, [], ◌∷◌, List, arith}
use Rattle.std.proofs.lemmas.Int.{ints, by_lt_z}
use Rattle.integer_algebra.proofs.Ring.{ring, Term, V, K, M, ◌⊕◌, ◌⊖◌, ◌⊗◌}
use Rattle.integer_algebra.proofs.Order.{square_nonneg, times_nonneg, times_nonpos, times_pos, times_negative, sign_of_nonneg}
use Rattle.swept_move.specs.Part.{Quadratic}
use Rattle.swept_move.specs.Part.{Part, IsPart, IsInPart, value_at, slope_at, HasNoDipIn, IsNotNegativeIn}

-- the value of V 0, V 1, V 2 at k / n
abbrev value : Term → Term → Term
value k n = V 0 ⊗ (k ⊗ k) ⊕ V 1 ⊗ (k ⊗ n) ⊕ V 2 ⊗ (n ⊗ n)

abbrev slope : Term → Term → Term
slope k o = o ⊗ V 1 ⊕ K (pos 2) ⊗ (V 0 ⊗ k)

-- ---- at a moment k / n of the part, which is x / (over n) after its first and y / (over n) before its last

module _ (u : Part) (q : Quadratic) (k n : ℤ) (part : IsPart u) (within : IsInPart u k n) (some : pos 1 ≤ℤ n)
    (start : pos 0 ≤ℤ value_at q u.first u.over) (finish : pos 0 ≤ℤ value_at q u.last u.over) where
  abbrev x : ℤ
  x = u.over *ℤ k -ℤ u.first *ℤ n

  abbrev y : ℤ
  y = u.last *ℤ n -ℤ u.over *ℤ k

  after : pos 0 ≤ℤ x
  after = let from = within.start in omega (arith, ints)

  before : pos 0 ≤ℤ y
  before = let to = within.finish in omega (arith, ints)

  abbrev atoms : List ℤ
  atoms = q.a ∷ q.b ∷ q.c ∷ k ∷ n ∷ u.first ∷ u.last ∷ u.over ∷ []

  abbrev term_x : Term
  term_x = V 7 ⊗ V 3 ⊖ V 5 ⊗ V 4

  abbrev term_y : Term
  term_y = V 6 ⊗ V 4 ⊖ V 7 ⊗ V 3

  over_pos : pos 0 <ℤ (u.over *ℤ u.over)
  over_pos = let least = part.some in times_pos u.over u.over (omega (arith, ints)) (omega (arith, ints))

  -- it opens downwards: it is at least what the straight line between its ends is
  arched : q.a ≤ℤ pos 0 → pos 0 ≤ℤ value_at q k n
  arched down =
      let long = part.long in
      let p = times_nonneg (y *ℤ n) (value_at q u.first u.over) (times_nonneg y n before (omega (arith, ints))) start in
      let r = times_nonneg (x *ℤ n) (value_at q u.last u.over) (times_nonneg x n after (omega (arith, ints))) finish in
      let t = times_nonpos ((u.last -ℤ u.first) *ℤ (x *ℤ y)) q.a (times_nonneg (u.last -ℤ u.first) (x *ℤ y) (omega (arith, ints)) (times_nonneg x y after before)) down in
      let e = ring atoms (((V 6 ⊖ V 5) ⊗ (V 7 ⊗ V 7)) ⊗ value (V 3) (V 4))
      ((term_y ⊗ V 4) ⊗ value (V 5) (V 7) ⊕ (term_x ⊗ V 4) ⊗ value (V 6) (V 7) ⊖ ((V 6 ⊖ V 5) ⊗ (term_x ⊗ term_y)) ⊗ V 0) tt in
      sign_of_nonneg ((u.last -ℤ u.first) *ℤ (u.over *ℤ u.over)) (value_at q k n) (times_pos (u.last -ℤ u.first) (u.over *ℤ u.over) (omega (arith, ints)) over_pos) (omega (arith, ints))

  -- it rises from the first moment on
  rising : pos 0 ≤ℤ q.a → pos 0 ≤ℤ slope_at q u.first u.over → pos 0 ≤ℤ value_at q k n
  rising up on =
      let p = times_nonneg (n *ℤ n) (value_at q u.first u.over) (square_nonneg n) start in
      let r = times_nonneg (x *ℤ n) (slope_at q u.first u.over) (times_nonneg x n after (omega (arith, ints))) on in
      let t = times_nonneg (x *ℤ x) q.a (square_nonneg x) up in
      let e = ring atoms ((V 7 ⊗ V 7) ⊗ value (V 3) (V 4)) ((V 4 ⊗ V 4) ⊗ value (V 5) (V 7) ⊕ (term_x ⊗ V 4) ⊗ slope (V 5) (V 7) ⊕ (term_x ⊗ term_x) ⊗ V 0) tt in
      sign_of_nonneg (u.over *ℤ u.over) (value_at q k n) over_pos (omega (arith, ints))

  -- it falls up to the last moment
  falling : pos 0 ≤ℤ q.a → slope_at q u.last u.over ≤ℤ pos 0 → pos 0 ≤ℤ value_at q k n
  falling up on =
      let p = times_nonneg (n *ℤ n) (value_at q u.last u.over) (square_nonneg n) finish in
      let r = times_nonpos (y *ℤ n) (slope_at q u.last u.over) (times_nonneg y n before (omega (arith, ints))) on in
      let t = times_nonneg (y *ℤ y) q.a (square_nonneg y) up in
      let e = ring atoms ((V 7 ⊗ V 7) ⊗ value (V 3) (V 4)) ((V 4 ⊗ V 4) ⊗ value (V 6) (V 7) ⊖ (term_y ⊗ V 4) ⊗ slope (V 6) (V 7) ⊕ (term_y ⊗ term_y) ⊗ V 0) tt in
      sign_of_nonneg (u.over *ℤ u.over) (value_at q k n) over_pos (omega (arith, ints))

  -- its lowest point isn't below 0: the square is completed
  lifted : pos 0 <ℤ q.a → (q.b *ℤ q.b) ≤ℤ (pos 4 *ℤ (q.a *ℤ q.c)) → pos 0 ≤ℤ value_at q k n
  lifted up on =
      let p = square_nonneg (pos 2 *ℤ (q.a *ℤ k) +ℤ q.b *ℤ n) in
      let r = times_nonneg (n *ℤ n) (pos 4 *ℤ (q.a *ℤ q.c) -ℤ q.b *ℤ q.b) (square_nonneg n) (omega (arith, ints)) in
      let root = K (pos 2) ⊗ (V 0 ⊗ V 3) ⊕ V 1 ⊗ V 4 in
      let e = ring atoms (V 0 ⊗ (K (pos 4) ⊗ value (V 3) (V 4))) (root ⊗ root ⊕ (V 4 ⊗ V 4) ⊗ (K (pos 4) ⊗ (V 0 ⊗ V 2) ⊖ V 1 ⊗ V 1)) tt in
      let fourfold = sign_of_nonneg q.a (pos 4 *ℤ value_at q k n) up (omega (arith, ints)) in
      omega (arith, ints)

  nowhere_below : HasNoDipIn u q → pos 0 ≤ℤ value_at q k n
  nowhere_below dip =
      by_lt_z (pos 0) q.a
      (λ up.
      let high : pos 0 ≤ℤ q.a = omega (arith, ints) in
      elim dip [
        | inl down ↦ arched down
        | inr other ↦
            elim other [
              | inl on ↦ rising high on
              | inr last ↦ elim last [ inl on ↦ falling high on | inr on ↦ lifted up on ]
            ]
      ])
      arched

pub not_negative : (u : Part) (q : Quadratic) (k n : ℤ) → IsPart u → IsInPart u k n → pos 1 ≤ℤ n → IsNotNegativeIn u q → pos 0 ≤ℤ value_at q k n
not_negative u q k n part within some above = nowhere_below u q k n part within some above.start above.finish above.between

-- ---- and the other way round

-- a moment of the part at which the quadratic is negative
pub record IsSomewhereNegative (u : Part) (q : Quadratic) : Type 0 where
  pub k : ℤ
  pub n : ℤ
  pub some : pos 1 ≤ℤ n
  pub within : IsInPart u k n
  pub below : value_at q k n <ℤ pos 0

module _ (u : Part) (q : Quadratic) (part : IsPart u) where
  -- it is at its lowest at the moment -b / 2 a
  lowest : pos 0 <ℤ q.a → slope_at q u.first u.over <ℤ pos 0 → pos 0 <ℤ slope_at q u.last u.over → (pos 4 *ℤ (q.a *ℤ q.c)) <ℤ (q.b *ℤ q.b) → IsSomewhereNegative u q
  lowest up falls rises low =
      let i = ring (q.a ∷ u.first ∷ []) (V 1 ⊗ (K (pos 2) ⊗ V 0)) (K (pos 2) ⊗ (V 0 ⊗ V 1)) tt in
      let j = ring (q.a ∷ u.last ∷ []) (V 1 ⊗ (K (pos 2) ⊗ V 0)) (K (pos 2) ⊗ (V 0 ⊗ V 1)) tt in
      let o = ring (q.b ∷ u.over ∷ []) (V 1 ⊗ M (V 0)) (M (V 1 ⊗ V 0)) tt in
      let p = times_negative q.a (pos 4 *ℤ (q.a *ℤ q.c) -ℤ q.b *ℤ q.b) up (omega (arith, ints)) in
      let e = ring (q.a ∷ q.b ∷ q.c ∷ []) (value (M (V 1)) (K (pos 2) ⊗ V 0)) (V 0 ⊗ (K (pos 4) ⊗ (V 0 ⊗ V 2) ⊖ V 1 ⊗ V 1)) tt in
      record {
        k = neg_ℤ q.b;
        n = pos 2 *ℤ q.a;
        some = omega (arith, ints);
        within = record { start = omega (arith, ints); finish = omega (arith, ints) };
        below = omega (arith, ints);
      }

  at_border : (k : ℤ) → u.first ≤ℤ k → k ≤ℤ u.last → value_at q k u.over <ℤ pos 0 → IsSomewhereNegative u q
  at_border k from to below =
      let some = part.some in
      let i = times_nonneg u.over (k -ℤ u.first) (omega (arith, ints)) (omega (arith, ints)) in
      let j = times_nonneg u.over (u.last -ℤ k) (omega (arith, ints)) (omega (arith, ints)) in
      let e = ring (u.over ∷ k ∷ u.first ∷ []) (V 0 ⊗ (V 1 ⊖ V 2)) (V 0 ⊗ V 1 ⊖ V 2 ⊗ V 0) tt in
      let f = ring (u.over ∷ k ∷ u.last ∷ []) (V 0 ⊗ (V 2 ⊖ V 1)) (V 2 ⊗ V 0 ⊖ V 0 ⊗ V 1) tt in
      record { k = k; n = u.over; some = some; within = record { start = omega (arith, ints); finish = omega (arith, ints) }; below = below }

  -- it is negative at one of the moments, or passes the tests
  pub negative_or_not : IsSomewhereNegative u q ⊎ IsNotNegativeIn u q
  negative_or_not =
      let long = part.long in
      by_lt_z (value_at q u.first u.over) (pos 0) (λ below. inl (at_border u.first (omega (arith, ints)) (omega (arith, ints)) below)) (λ start.
      by_lt_z (value_at q u.last u.over) (pos 0) (λ below. inl (at_border u.last (omega (arith, ints)) (omega (arith, ints)) below)) (λ finish.
      let passed : HasNoDipIn u q → IsSomewhereNegative u q ⊎ IsNotNegativeIn u q = λ dip. inr (record { start = start; finish = finish; between = dip }) in
      by_lt_z (pos 0) q.a
      (λ up. by_lt_z (slope_at q u.first u.over) (pos 0)
      (λ falls. by_lt_z (pos 0) (slope_at q u.last u.over)
      (λ rises. by_lt_z (pos 4 *ℤ (q.a *ℤ q.c)) (q.b *ℤ q.b) (λ low. inl (lowest up falls rises low)) (λ l. passed (inr (inr (inr l)))))
      (λ l. passed (inr (inr (inl l)))))
      (λ l. passed (inr (inl l))))
      (λ l. passed (inl l))))
