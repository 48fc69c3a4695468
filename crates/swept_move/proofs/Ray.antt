-- First law: the first border that a ray meets. It meets one, or nears none of them.
--
-- The way leads from a start in a direction. A bound is at the distance `off` from the start, which isn't negative, and the
-- direction changes that distance by `by`. After the weights m of the start and k of the direction it is m off + k by.
use Rattle.std.proofs.Common.{◌≡◌, ◌⊎◌, inl, inr, ℤ, pos, ◌*ℤ◌, ◌≤ℤ◌, ◌<ℤ◌, neg_ℤ, [], ◌∷◌, List, arith, ap, ◌∙◌}
use Rattle.std.proofs.lemmas.Int.{ints, by_lt_z}
use Rattle.integer_algebra.proofs.Ring.{ring, V, K, M, ◌⊕◌, ◌⊖◌, ◌⊗◌}
use Rattle.integer_algebra.proofs.Order.{mix, mix_nonneg, times_nonneg, times_nonpos, sign_of_nonneg, sign_of_negative, zero_times}

pub record Bound : Type 0 where
  pub off : ℤ
  pub by : ℤ

-- the start is within the bounds
abbrev pub StartsWithin : List Bound → Type 0
StartsWithin [] = Unit {0}
StartsWithin (b ∷ bs) = (pos 0 ≤ℤ b.off) × StartsWithin bs

-- the direction nears none of the bounds
abbrev pub NearsNone : List Bound → Type 0
NearsNone [] = Unit {0}
NearsNone (b ∷ bs) = (pos 0 ≤ℤ b.by) × NearsNone bs

abbrev pub IsWithinAt : (m k : ℤ) → List Bound → Type 0
IsWithinAt m k [] = Unit {0}
IsWithinAt m k (b ∷ bs) = (pos 0 ≤ℤ mix m k b.off b.by) × IsWithinAt m k bs

abbrev pub MeetsOneAt : (m k : ℤ) → List Bound → Type 0
MeetsOneAt m k [] = ⊥
MeetsOneAt m k (b ∷ bs) = (mix m k b.off b.by ≡ pos 0) ⊎ MeetsOneAt m k bs

-- the place at which the way meets a bound, while it is still within all
pub record Exit (bs : List Bound) : Type 0 where
  pub m : ℤ
  pub k : ℤ
  pub some : pos 0 <ℤ m
  pub forth : pos 0 ≤ℤ k
  pub within : IsWithinAt m k bs
  pub meets : MeetsOneAt m k bs

at_bound : (x y : ℤ) → mix (neg_ℤ y) x x y ≡ pos 0
at_bound x y = ring (x ∷ y ∷ []) (M (V 1) ⊗ V 0 ⊕ V 0 ⊗ V 1) (K (pos 0)) tt

-- a bound that isn't neared is never passed
still_within : (m k : ℤ) (bs : List Bound) → pos 0 ≤ℤ m → pos 0 ≤ℤ k → StartsWithin bs → NearsNone bs → IsWithinAt m k bs
still_within m k [] h l starts nears = tt
still_within m k (b ∷ bs) h l starts nears =
    (mix_nonneg m k b.off b.by h l starts.0 nears.0, still_within m k bs h l starts.1 nears.1)

module _ (m k x y : ℤ) (some : pos 0 <ℤ m) (forth : pos 0 ≤ℤ k) (starts : pos 0 ≤ℤ x) (passed : mix m k x y <ℤ pos 0) where
  start_share : pos 0 ≤ℤ (m *ℤ x)
  start_share = times_nonneg m x (omega (arith, ints)) starts

  -- a bound that is passed was neared
  neared : y <ℤ pos 0
  neared = sign_of_negative k y forth (let p = start_share in omega (arith, ints))

  moved : pos 0 <ℤ k
  moved = by_lt_z (pos 0) k (λ l. l) (λ l.
      let none : k *ℤ y ≡ pos 0 = ap (λ z. z *ℤ y) (let e : k ≡ pos 0 = omega (arith, ints) in e) ∙ zero_times y in
      let p = start_share in
      absurd (omega (arith, ints)))

  -- where it was met, the way is within what it is within later
  within_before : (u v : ℤ) → pos 0 ≤ℤ u → pos 0 ≤ℤ mix m k u v → pos 0 ≤ℤ mix (neg_ℤ y) x u v
  within_before u v p q =
      let later = times_nonneg x (mix m k u v) starts q in
      let less : (u *ℤ mix m k x y) ≤ℤ pos 0 = times_nonpos u (mix m k x y) p (omega (arith, ints)) in
      let e = ring (m ∷ k ∷ x ∷ y ∷ u ∷ v ∷ []) (V 1 ⊗ (M (V 3) ⊗ V 4 ⊕ V 2 ⊗ V 5)) (V 2 ⊗ (V 0 ⊗ V 4 ⊕ V 1 ⊗ V 5) ⊖ V 4 ⊗ (V 0 ⊗ V 2 ⊕ V 1 ⊗ V 3)) tt in
      sign_of_nonneg k (mix (neg_ℤ y) x u v) moved (omega (arith, ints))

  all_within_before : (bs : List Bound) → StartsWithin bs → IsWithinAt m k bs → IsWithinAt (neg_ℤ y) x bs
  all_within_before [] begins within = tt
  all_within_before (b ∷ bs) begins within = (within_before b.off b.by begins.0 within.0, all_within_before bs begins.1 within.1)

exit_at : (x y : ℤ) (bs : List Bound) → pos 0 ≤ℤ x → y <ℤ pos 0 → IsWithinAt (neg_ℤ y) x bs → Exit (record { off = x; by = y } ∷ bs)
exit_at x y bs starts nears within =
    let met = at_bound x y in
    record {
      m = neg_ℤ y;
      k = x;
      some = omega (arith, ints);
      forth = starts;
      within = (let least : pos 0 ≤ℤ mix (neg_ℤ y) x x y = omega (arith, ints) in least, within);
      meets = inl met;
    }

-- the way nears none of the bounds, or it meets one of them first
pub leave : (bs : List Bound) → StartsWithin bs → NearsNone bs ⊎ Exit bs
leave [] starts = inl tt
leave (b ∷ bs) starts =
    elim (leave bs starts.1) [
      | inl nears ↦
          by_lt_z b.by (pos 0)
          (λ l.
          let least : pos 0 ≤ℤ neg_ℤ b.by = omega (arith, ints) in
          inr (exit_at b.off b.by bs starts.0 l (still_within (neg_ℤ b.by) b.off bs least starts.0 starts.1 nears)))
          (λ l. inl (l, nears))
      | inr exit ↦
          by_lt_z (mix exit.m exit.k b.off b.by) (pos 0)
          (λ l. inr (exit_at b.off b.by bs starts.0 (neared exit.m exit.k b.off b.by exit.some exit.forth starts.0 l)
          (all_within_before exit.m exit.k b.off b.by exit.some exit.forth starts.0 l bs starts.1 exit.within)))
          (λ l. inr (record { m = exit.m; k = exit.k; some = exit.some; forth = exit.forth; within = (l, exit.within); meets = inr exit.meets }))
    ]
