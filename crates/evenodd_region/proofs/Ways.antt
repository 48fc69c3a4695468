-- The way of the tip between two moments below the surface: it stays below, and each point of it is the tip's place at some
-- moment.
use Rattle.std.specs.Prelude.{◌⊎◌, if◌then◌else◌}
use Rattle.std.proofs.Common.{◌≡◌, ◌<◌, nat_lt, Bool, true, false, refl, ℤ, pos, negsuc, ◌+ℤ◌, ◌-ℤ◌, ◌*ℤ◌, ◌≤ℤ◌, ◌<ℤ◌, [], ◌∷◌, arith, ap, ap₂, sym, ◌∙◌, inl, inr}
use Rattle.std.proofs.lemmas.Int.{ints, by_lt_z}
use Rattle.integer_algebra.proofs.Ring.{ring, V, K, M, ◌⊕◌, ◌⊖◌, ◌⊗◌}
use Rattle.integer_algebra.proofs.Order.{mix, mix_nonneg, times_nonneg, times_pos}
use Rattle.plane_exact.specs.Plane.{Fraction, GridPoint, RationalPoint}
use Rattle.plane_exact.specs.declared.moves.Move.{Move}
use Rattle.plane_exact.specs.Moves.{depth_of, IsDeep, first_deep}
use Rattle.engrave_model.specs.Removal.{Moment, between, place_at, depth_at, from_tenths}
use Rattle.plane_exact.proofs.Fractions.{first, last}
use Rattle.plane_exact.specs.Plane.{IsOnPath}
use Rattle.evenodd_region.proofs.Discs.{IsSamePlace}
use Rattle.evenodd_region.proofs.Levels.{mix_some}
use Rattle.evenodd_region.proofs.Tenths.{tenth}

-- ---- a moment between two

some_of_both : (i j p q : ℤ) → pos 0 ≤ℤ i → pos 0 ≤ℤ j → pos 0 <ℤ p → pos 0 <ℤ q → (pos 0 <ℤ i) ⊎ (pos 0 <ℤ j) → pos 0 <ℤ mix i j p q
some_of_both i j p q i_sign j_sign p_some q_some (inl some) = let both = mix_some i j p q some j_sign (omega (arith, ints)) (omega (arith, ints)) in omega (arith, ints)
some_of_both i j p q i_sign j_sign p_some q_some (inr some) = let both = mix_some j i q p some i_sign (omega (arith, ints)) (omega (arith, ints)) in omega (arith, ints)

module _ (s t : Moment) (at : Fraction) where
  abbrev k : ℤ
  k = at.k

  abbrev n : ℤ
  n = at.n

  -- the weights of both moments' numbers at that fraction of the way between the places
  abbrev of_s : ℤ
  of_s = (n -ℤ k) *ℤ t.n

  abbrev of_t : ℤ
  of_t = k *ℤ s.n

  s_sign : pos 0 ≤ℤ of_s
  s_sign = let whole = t.some in let finish = at.finish in times_nonneg (n -ℤ k) t.n (omega (arith, ints)) (omega (arith, ints))

  t_sign : pos 0 ≤ℤ of_t
  t_sign = let whole = s.some in times_nonneg k s.n at.start (omega (arith, ints))

  one_some : (pos 0 <ℤ of_s) ⊎ (pos 0 <ℤ of_t)
  one_some =
      let s_whole = s.some in
      let t_whole = t.some in
      let some = at.some in
      by_lt_z k n
      (λ l. inl (times_pos (n -ℤ k) t.n (omega (arith, ints)) (omega (arith, ints))))
      (λ l. inr (times_pos k s.n (omega (arith, ints)) (omega (arith, ints))))

  pub moment_between : Moment
  moment_between =
      let s_some = s.some in
      let t_some = t.some in
      let s_finish = s.finish in
      let t_finish = t.finish in
      let rest = mix_nonneg of_s of_t (s.n -ℤ s.k) (t.n -ℤ t.k) s_sign t_sign (omega (arith, ints)) (omega (arith, ints)) in
      let parts = ring (of_s ∷ of_t ∷ s.k ∷ s.n ∷ t.k ∷ t.n ∷ [])
      (V 0 ⊗ (V 3 ⊖ V 2) ⊕ V 1 ⊗ (V 5 ⊖ V 4)) ((V 0 ⊗ V 3 ⊕ V 1 ⊗ V 5) ⊖ (V 0 ⊗ V 2 ⊕ V 1 ⊗ V 4)) tt in
      let positive = some_of_both of_s of_t s.n t.n s_sign t_sign (omega (arith, ints)) (omega (arith, ints)) one_some in
      record {
        k = mix of_s of_t s.k t.k;
        n = mix of_s of_t s.n t.n;
        start = mix_nonneg of_s of_t s.k t.k s_sign t_sign s.start t.start;
        finish = omega (arith, ints);
        some = omega (arith, ints);
      }

  between_both : (f l : ℤ) → between moment_between f l ≡ mix of_s of_t (between s f l) (between t f l)
  unfolding moment_between
  between_both f l =
      ring (of_s ∷ of_t ∷ s.k ∷ s.n ∷ t.k ∷ t.n ∷ f ∷ l ∷ [])
      (((V 0 ⊗ V 3 ⊕ V 1 ⊗ V 5) ⊖ (V 0 ⊗ V 2 ⊕ V 1 ⊗ V 4)) ⊗ V 6 ⊕ (V 0 ⊗ V 2 ⊕ V 1 ⊗ V 4) ⊗ V 7)
      (V 0 ⊗ ((V 3 ⊖ V 2) ⊗ V 6 ⊕ V 2 ⊗ V 7) ⊕ V 1 ⊗ ((V 5 ⊖ V 4) ⊗ V 6 ⊕ V 4 ⊗ V 7)) tt

  deep_between : (mv : Move) → pos 0 <ℤ depth_at mv s → pos 0 <ℤ depth_at mv t → pos 0 <ℤ depth_at mv moment_between
  deep_between mv s_deep t_deep =
      let both = between_both mv.from.h mv.to.h in
      let turned = ring (of_s ∷ of_t ∷ between s mv.from.h mv.to.h ∷ between t mv.from.h mv.to.h ∷ [])
      (V 0 ⊗ M (V 2) ⊕ V 1 ⊗ M (V 3)) (M (V 0 ⊗ V 2 ⊕ V 1 ⊗ V 3)) tt in
      let deep = some_of_both of_s of_t (depth_at mv s) (depth_at mv t) s_sign t_sign s_deep t_deep one_some in
      omega (arith, ints)

  -- one coordinate of the place
  same_between : (f l u over : ℤ)
      → (n *ℤ (s.n *ℤ t.n)) *ℤ u ≡ over *ℤ ((n -ℤ k) *ℤ (t.n *ℤ between s f l) +ℤ k *ℤ (s.n *ℤ between t f l))
      → mix of_s of_t s.n t.n *ℤ u ≡ over *ℤ between moment_between f l
  same_between f l u over on =
      ring (k ∷ n ∷ s.n ∷ t.n ∷ u ∷ [])
      ((((V 1 ⊖ V 0) ⊗ V 3) ⊗ V 2 ⊕ (V 0 ⊗ V 2) ⊗ V 3) ⊗ V 4) ((V 1 ⊗ (V 2 ⊗ V 3)) ⊗ V 4) tt
      ∙ on
      ∙ ring (k ∷ n ∷ s.n ∷ t.n ∷ over ∷ between s f l ∷ between t f l ∷ [])
      (V 4 ⊗ ((V 1 ⊖ V 0) ⊗ (V 3 ⊗ V 5) ⊕ V 0 ⊗ (V 2 ⊗ V 6))) (V 4 ⊗ (((V 1 ⊖ V 0) ⊗ V 3) ⊗ V 5 ⊕ (V 0 ⊗ V 2) ⊗ V 6)) tt
      ∙ ap (λ z. over *ℤ z) (sym (between_both f l))

-- the point is a place of the tip below the surface
pub record IsDeepPlace (mv : Move) (u : RationalPoint) : Type 0 where
  pub moment : Moment
  pub deep : pos 0 <ℤ depth_at mv moment
  pub same : IsSamePlace (place_at mv moment) u

pub way_deep : (mv : Move) (s t : Moment) (u : RationalPoint) → pos 0 <ℤ depth_at mv s → pos 0 <ℤ depth_at mv t
    → IsOnPath (place_at mv s) (place_at mv t) u → IsDeepPlace mv u
unfolding moment_between
way_deep mv s t u s_deep t_deep on = record {
  moment = moment_between s t on.at;
  deep = deep_between s t on.at mv s_deep t_deep;
  same = record {
    across = same_between s t on.at mv.from.at.x mv.to.at.x u.x u.over on.across;
    up = same_between s t on.at mv.from.at.y mv.to.at.y u.y u.over on.up;
  };
}

-- ---- the ends of a move as moments

pub below_surface : (h : ℤ) → 0 < depth_of h → h <ℤ pos 0
below_surface (pos n) deep = absurd (omega arith)
below_surface (negsuc n) deep = record { lt = tt }

pub not_below_surface : (h : ℤ) → ¬ (0 < depth_of h) → pos 0 ≤ℤ h
not_below_surface (pos n) flat = omega (arith, ints)
not_below_surface (negsuc n) flat = absurd (flat (omega arith))

at_first : (f l : ℤ) → f ≡ between first f l
at_first f l = ring (f ∷ l ∷ []) (V 0) ((K (pos 1) ⊖ K (pos 0)) ⊗ V 0 ⊕ K (pos 0) ⊗ V 1) tt

at_last : (f l : ℤ) → l ≡ between last f l
at_last f l = ring (f ∷ l ∷ []) (V 1) ((K (pos 1) ⊖ K (pos 1)) ⊗ V 0 ⊕ K (pos 1) ⊗ V 1) tt

same_tenths : (x y x' y' : ℤ) → x ≡ x' → y ≡ y'
    → from_tenths (record { x = x; y = y }) ≡ tenth (record { x = x'; y = y'; over = pos 1; positive = record { le = tt } })
unfolding tenth
same_tenths x y x' y' across up = ap₂ (λ x y. from_tenths (record { x = x; y = y })) across up

-- the end below the surface is the tip's place at a moment below it, in grid units
pub record IsDeepEnd (mv : Move) (p : GridPoint) : Type 0 where
  pub moment : Moment
  pub deep : pos 0 <ℤ depth_at mv moment
  pub same : from_tenths p ≡ tenth (place_at mv moment)

-- an end of the move is the place at the moment that gives of two numbers that end's
end_at : (mv : Move) (k : ℤ) (start : pos 0 ≤ℤ k) (finish : k ≤ℤ pos 1) (end : ℤ → ℤ → ℤ) → ((f l : ℤ) → end f l ≡ (pos 1 -ℤ k) *ℤ f +ℤ k *ℤ l)
    → 0 < depth_of (end mv.from.h mv.to.h) → IsDeepEnd mv (record { x = end mv.from.at.x mv.to.at.x; y = end mv.from.at.y mv.to.at.y })
end_at mv k start finish end is deep =
    let h = below_surface (end mv.from.h mv.to.h) deep in
    let height = is mv.from.h mv.to.h in
    record {
      moment = record { k = k; n = pos 1; start = start; finish = finish; some = record { le = tt } };
      deep = omega (arith, ints);
      same = same_tenths _ _ _ _ (is mv.from.at.x mv.to.at.x) (is mv.from.at.y mv.to.at.y);
    }

pub deep_end : (mv : Move) → IsDeep mv → IsDeepEnd mv (first_deep mv)
deep_end mv deep = by_test (nat_lt 0 (depth_of mv.from.h)) refl
  where
    by_test : (test : Bool) → nat_lt 0 (depth_of mv.from.h) ≡ test → IsDeepEnd mv (if test then mv.from.at else mv.to.at)
    by_test true is = end_at mv first.k first.start first.finish (λ f l. f) at_first (grind arith)
    by_test false is = elim deep [
      | inl from ↦ absurd (grind arith)
      | inr to ↦ end_at mv last.k last.start last.finish (λ f l. l) at_last to
    ]
