-- Motions between two places: which part of the moments matters, and both laws at it.
use Rattle.std.proofs.Common.{◌≡◌, ◌↔◌, ◌⊎◌, inl, inr, Bool, true, false, ℕ, zero, suc, ◌<◌, ℤ, pos, negsuc, int_lt, neg_ℤ, ◌+ℤ◌, ◌-ℤ◌, ◌*ℤ◌, ◌≤ℤ◌, ◌<ℤ◌, if◌then◌else◌, [], ◌∷◌, arith, refl, ap, sym, ◌∙◌}
use Rattle.std.proofs.lemmas.Int.{ints}
use Rattle.integer_algebra.proofs.Ring.{ring, V, K, M, ◌⊕◌, ◌⊖◌, ◌⊗◌}
use Rattle.integer_algebra.proofs.Order.{times_nonneg, times_nonpos, times_le}
use Rattle.plane_exact.specs.Heights.{GridPlace}
use Rattle.plane_exact.specs.Moves.{depth_of}
use Rattle.engrave_model.specs.Removal.{Moment, between}
use Rattle.swept_move.specs.Motion.{DeepPartLaw, IsDeepBetween, MotionConverseLaw, MotionLaw, deep_part, end_at, sweep_between}
use Rattle.swept_move.specs.Part.{Part, IsPart, IsInPart}
use Rattle.swept_move.specs.Sweep.{IsAt, IsSweep, Sweep, sweep_depth}
use Rattle.swept_move.proofs.Sweeps.{touches_none}
use Rattle.swept_move.proofs.Touching.{touches_or_passes}

-- ---- what the part is, in each of its three cases

-- times over, how deep the tip is at the moment i / over of a motion from the height h to the height k
abbrev depth_in : (h k i over : ℤ) → ℤ
depth_in h k i over = over *ℤ neg_ℤ h +ℤ i *ℤ (h -ℤ k)

pub record IsDeepPart (h k : ℤ) (u : Part) : Type 0 where
  pub part : IsPart u
  pub least : pos 0 ≤ℤ u.first
  pub most : u.last ≤ℤ u.over
  pub start : ((h ≤ℤ pos 0) × (u.first ≡ pos 0)) ⊎ ((pos 0 <ℤ h) × (depth_in h k u.first u.over ≡ pos 0))
  pub finish : ((k ≤ℤ pos 0) × (u.last ≡ u.over)) ⊎ ((pos 0 <ℤ k) × (depth_in h k u.last u.over ≡ pos 0))
  pub all : (s : Moment) → IsInPart u s.k s.n ↔ (between s h k ≤ℤ pos 0)

by_test : {A : Type 0} (P : A → Type 0) (b : Bool) (x y : A) → (b ≡ true → P x) → (b ≡ false → P y) → P (if b then x else y)
by_test P true x y on off = on refl
by_test P false x y on off = off refl

between_is : (s : Moment) (h k : ℤ) → between s h k ≡ s.n *ℤ h +ℤ s.k *ℤ (k -ℤ h)
between_is s h k = ring (s.k ∷ s.n ∷ h ∷ k ∷ []) ((V 1 ⊖ V 0) ⊗ V 2 ⊕ V 0 ⊗ V 3) (V 1 ⊗ V 2 ⊕ V 0 ⊗ (V 3 ⊖ V 2)) tt

entering : (h k : ℤ) → pos 0 <ℤ h → k <ℤ pos 0 → IsDeepPart h k (record { first = h; last = h -ℤ k; over = h -ℤ k })
entering h k above below = record {
  part = record { some = omega (arith, ints); long = omega (arith, ints) };
  least = omega (arith, ints);
  most = omega (arith, ints);
  start = inr (above, ring (h ∷ k ∷ []) ((V 0 ⊖ V 1) ⊗ M (V 0) ⊕ V 0 ⊗ (V 0 ⊖ V 1)) (K (pos 0)) tt);
  finish = inl (omega (arith, ints), refl);
  all = λ s.
      let rest = times_le (h -ℤ k) s.k s.n (omega (arith, ints)) s.finish in
      let e = between_is s h k in
      let f = ring (s.k ∷ s.n ∷ h ∷ k ∷ []) ((V 2 ⊖ V 3) ⊗ V 0) (M (V 0 ⊗ (V 3 ⊖ V 2))) tt in
      let g = ring (s.n ∷ h ∷ []) (V 0 ⊗ V 1) (V 1 ⊗ V 0) tt in (
        (λ within. let from = within.start in omega (arith, ints)),
        (λ down. record { start = omega (arith, ints); finish = omega (arith, ints) }),
      );
}

leaving : (h k : ℤ) → h <ℤ pos 0 → pos 0 <ℤ k → IsDeepPart h k (record { first = pos 0; last = neg_ℤ h; over = k -ℤ h })
leaving h k below above = record {
  part = record { some = omega (arith, ints); long = omega (arith, ints) };
  least = record { le = tt };
  most = omega (arith, ints);
  start = inl (omega (arith, ints), refl);
  finish = inr (above, ring (h ∷ k ∷ []) ((V 1 ⊖ V 0) ⊗ M (V 0) ⊕ M (V 0) ⊗ (V 0 ⊖ V 1)) (K (pos 0)) tt);
  all = λ s.
      let least = times_nonneg (k -ℤ h) s.k (omega (arith, ints)) s.start in
      let e = between_is s h k in
      let f = ring (s.k ∷ h ∷ k ∷ []) ((V 2 ⊖ V 1) ⊗ V 0) (V 0 ⊗ (V 2 ⊖ V 1)) tt in
      let g = ring (s.n ∷ h ∷ []) (M (V 1) ⊗ V 0) (M (V 0 ⊗ V 1)) tt in (
        (λ within. let to = within.finish in omega (arith, ints)),
        (λ down. record { start = omega (arith, ints); finish = omega (arith, ints) }),
      );
}

under : (h k : ℤ) → h ≤ℤ pos 0 → k ≤ℤ pos 0 → IsDeepPart h k (record { first = pos 0; last = pos 1; over = pos 1 })
under h k first last = record {
  part = record { some = record { le = tt }; long = record { lt = tt } };
  least = record { le = tt };
  most = record { le = tt };
  start = inl (first, refl);
  finish = inl (last, refl);
  all = λ s.
      let start = s.start in
      let finish = s.finish in
      let p = times_nonpos (s.n -ℤ s.k) h (omega (arith, ints)) first in
      let q = times_nonpos s.k k start last in (
        (λ within. omega (arith, ints)),
        (λ down. record { start = omega (arith, ints); finish = omega (arith, ints) }),
      );
}

pub deep_part_is : (h k : ℤ) → (h <ℤ pos 0) ⊎ (k <ℤ pos 0) → IsDeepPart h k (deep_part h k)
deep_part_is h k deep =
    by_test (IsDeepPart h k) (int_lt (pos 0) h) _ _
    (λ above. entering h k (omega (arith, ints)) (elim deep [ inl l ↦ absurd (omega (arith, ints)) | inr l ↦ l ]))
    (λ down. by_test (IsDeepPart h k) (int_lt (pos 0) k) _ _
    (λ above. leaving h k (elim deep [ inl l ↦ l | inr l ↦ absurd (omega (arith, ints)) ]) (omega (arith, ints)))
    (λ below. under h k (omega (arith, ints)) (omega (arith, ints))))

pub part_is_deep : DeepPartLaw
part_is_deep h k deep = (deep_part_is h k deep).all

-- ---- a motion between places as one over that part

depth_below : (h : ℤ) → h ≤ℤ pos 0 → pos (depth_of h) ≡ neg_ℤ h
depth_below (pos n) l = omega (arith, ints)
depth_below (negsuc n) l = omega (arith, ints)

depth_above : (h : ℤ) → pos 0 <ℤ h → depth_of h ≡ 0
depth_above (pos n) l = refl
depth_above (negsuc n) l = absurd l.lt

pub deep_heights : (p q : GridPlace) → IsDeepBetween p q → (p.h <ℤ pos 0) ⊎ (q.h <ℤ pos 0)
deep_heights p q deep = elim deep [ inl l ↦ inl (below p.h l) | inr l ↦ inr (below q.h l) ]
  where
    below : (h : ℤ) → 0 < depth_of h → h <ℤ pos 0
    below (pos n) l = absurd (omega arith)
    below (negsuc n) l = omega (arith, ints)

-- where the part begins with the motion, the tip is at the first place then; where it ends with it, at the last
module _ (p q : GridPlace) (u : Part) where
  abbrev sw : Sweep
  sw = record { from = p.at; to = q.at; z = neg_ℤ p.h; descent = p.h -ℤ q.h; part = u }

  at_first : p.h ≤ℤ pos 0 → u.first ≡ pos 0 → IsAt sw u.first (end_at p)
  at_first below e =
      let x = ap (λ z. z *ℤ (q.at.x -ℤ p.at.x)) e in
      let y = ap (λ z. z *ℤ (q.at.y -ℤ p.at.y)) e in
      let z = ap (λ z. z *ℤ (p.h -ℤ q.h)) e in
      let depth = ap (λ z. u.over *ℤ z) (depth_below p.h below) in
      record { across = omega (arith, ints); up = omega (arith, ints); depth = omega (arith, ints) }

  way_last : (f g : ℤ) → u.last ≡ u.over → u.over *ℤ g ≡ u.over *ℤ f +ℤ u.last *ℤ (g -ℤ f)
  way_last f g e = ring (u.over ∷ f ∷ g ∷ []) (V 0 ⊗ V 2) (V 0 ⊗ V 1 ⊕ V 0 ⊗ (V 2 ⊖ V 1)) tt ∙ ap (λ z. u.over *ℤ f +ℤ z *ℤ (g -ℤ f)) (sym e)

  at_last : q.h ≤ℤ pos 0 → u.last ≡ u.over → IsAt sw u.last (end_at q)
  at_last below e =
      let depth = ap (λ z. u.over *ℤ z) (depth_below q.h below) in
      let way = ap (λ z. u.over *ℤ neg_ℤ p.h +ℤ z *ℤ (p.h -ℤ q.h)) e in
      let sum = ring (u.over ∷ p.h ∷ q.h ∷ []) (V 0 ⊗ M (V 1) ⊕ V 0 ⊗ (V 1 ⊖ V 2)) (V 0 ⊗ M (V 2)) tt in
      record { across = way_last p.at.x q.at.x e; up = way_last p.at.y q.at.y e; depth = omega (arith, ints) }

  over_part : IsDeepPart p.h q.h u → IsSweep sw (end_at p) (end_at q)
  over_part is = record {
    part = is.part;
    least = is.least;
    most = is.most;
    start = elim is.start [ inl h ↦ inl (at_first h.0 h.1) | inr h ↦ inr (record { level = h.1; flat = depth_above p.h h.0 }) ];
    finish = elim is.finish [ inl h ↦ inl (at_last h.0 h.1) | inr h ↦ inr (record { level = h.1; flat = depth_above q.h h.0 }) ];
  }

pub is_sweep : (p q : GridPlace) → IsDeepBetween p q → IsSweep (sweep_between p q) (end_at p) (end_at q)
is_sweep p q deep = over_part p q (deep_part p.h q.h) (deep_part_is p.h q.h (deep_heights p q deep))

-- how deep the tip is at a moment
pub depth_at : (p q : GridPlace) (s : Moment) → sweep_depth (sweep_between p q) s ≡ neg_ℤ (between s p.h q.h)
depth_at p q s = ring (s.k ∷ s.n ∷ p.h ∷ q.h ∷ []) (V 1 ⊗ M (V 2) ⊕ V 0 ⊗ (V 2 ⊖ V 3)) (M ((V 1 ⊖ V 0) ⊗ V 2 ⊕ V 0 ⊗ V 3)) tt

-- where something is reached, the motion goes below the surface
pub deep_where_reached : (p q : GridPlace) (s : Moment) → pos 0 <ℤ sweep_depth (sweep_between p q) s → IsDeepBetween p q
deep_where_reached p q s below =
    let start = s.start in
    let finish = s.finish in
    let e = depth_at p q s in
    by_depth (depth_of p.h) (depth_of q.h) (λ none none'.
    let first = surface p.h none in
    let last = surface q.h none' in
    let a = times_nonneg (s.n -ℤ s.k) p.h (omega (arith, ints)) first in
    let b = times_nonneg s.k q.h start last in
    absurd (omega (arith, ints)))
  where
    by_depth : (m n : ℕ) → (m ≡ 0 → n ≡ 0 → (0 < m) ⊎ (0 < n)) → (0 < m) ⊎ (0 < n)
    by_depth zero zero none = none refl refl
    by_depth zero (suc n) none = inr (omega arith)
    by_depth (suc m) n none = inl (omega arith)

    surface : (h : ℤ) → depth_of h ≡ 0 → pos 0 ≤ℤ h
    surface (pos n) e = omega (arith, ints)
    surface (negsuc n) e = absurd (omega arith)

-- ---- the laws

pub spares_edge : MotionLaw
spares_edge cone p q e passes w on s reached =
    let deep = deep_where_reached p q s reached.deep in
    let same = depth_at p q s in
    let below = reached.deep in
    touches_none cone (sweep_between p q) (end_at p) (end_at q) e (is_sweep p q deep) passes (record {
      moment = s;
      within = (part_is_deep p.h q.h (deep_heights p q deep) s).1 (omega (arith, ints));
      point = w;
      on = on;
      reached = reached;
    })

pub touches_or_keeps_off : MotionConverseLaw
touches_or_keeps_off cone p q e steep deep = touches_or_passes cone (sweep_between p q) (end_at p) (end_at q) e steep (is_sweep p q deep) deep
