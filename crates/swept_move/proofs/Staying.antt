-- The ray leaves the part of the moments or the edge, or never does. So a pass with no hit at the border of these, and whose path
-- doesn't cross the edge within them, has no hit at all.
--
-- From a hit one goes along a level direction: one in which the way from the edge's point to the tip stays. The sense of it is
-- chosen so that the depth doesn't fall. Then one leaves the places of the part and the edge at their border, which holds no hit;
-- or the direction itself is such a place, at which path and edge meet.
use Rattle.std.proofs.Common.{◌≡◌, ◌↔◌, ◌⊎◌, inl, inr, ℤ, pos, ◌+ℤ◌, ◌-ℤ◌, ◌*ℤ◌, ◌≤ℤ◌, ◌<ℤ◌, neg_ℤ, [], ◌∷◌, List, arith, refl, ap, ap₂, ◌∙◌}
use Rattle.std.proofs.lemmas.Int.{ints, by_lt_z}
use Rattle.integer_algebra.proofs.Ring.{ring, V, K, M, ◌⊕◌, ◌⊖◌, ◌⊗◌}
use Rattle.integer_algebra.proofs.Order.{mix, by_sign, square_nonneg, times_pos, times_negative, cancel_same, squares_zero, times_zero}
use Rattle.swept_move.specs.Part.{Part, IsPart, IsInPart}
use Rattle.swept_move.proofs.Meetings.{turned_away, turned_product, meets_x, meets_y, beside_x, beside_y, alone}
use Rattle.swept_move.proofs.Hits.{Pass, IsHit, away, deep, hit_stays, near_zero}
use Rattle.swept_move.proofs.Ray.{Bound, Exit, NearsNone, leave}

-- how far the moment S / N is after the first of the part, and before the last, times over and N
abbrev pub since : Part → (S N : ℤ) → ℤ
since u S N = u.over *ℤ S -ℤ u.first *ℤ N

abbrev pub until : Part → (S N : ℤ) → ℤ
until u S N = u.last *ℤ N -ℤ u.over *ℤ S

-- a moment of the part, and a point of the edge from a to b
pub record IsPlaceIn (u : Part) (S T N : ℤ) : Type 0 where
  pub moment : IsInPart u S N
  pub a : pos 0 ≤ℤ T
  pub b : T ≤ℤ N
  pub some : pos 1 ≤ℤ N

-- the first moment, or the last, or the edge's end a, or b
abbrev pub IsAtBorder : Part → (S T N : ℤ) → Type 0
IsAtBorder u S T N = (since u S N ≡ pos 0) ⊎ ((until u S N ≡ pos 0) ⊎ ((T ≡ pos 0) ⊎ (N -ℤ T ≡ pos 0)))

abbrev pub IsGuardedIn : Part → Pass → Type 0
IsGuardedIn u p = (S T N : ℤ) → IsPlaceIn u S T N → IsAtBorder u S T N → ¬ IsHit p S T N

-- the triple, whatever its sign, is strictly within the part and strictly within the edge
pub record IsStrictlyIn (u : Part) (s t n : ℤ) : Type 0 where
  pub path : pos 0 <ℤ (since u s n *ℤ until u s n)
  pub edge : (t *ℤ (t -ℤ n)) <ℤ pos 0

abbrev sides : Part → (S T N s t n : ℤ) → List Bound
sides u S T N s t n =
    record { off = since u S N; by = since u s n } ∷ record { off = until u S N; by = until u s n } ∷ record { off = T; by = t } ∷ record { off = N -ℤ T; by = n -ℤ t } ∷ []

-- ---- the distance from a side after a way along the direction

mixed : (c d m k S s N n : ℤ) → mix m k (c *ℤ S -ℤ d *ℤ N) (c *ℤ s -ℤ d *ℤ n) ≡ c *ℤ mix m k S s -ℤ d *ℤ mix m k N n
mixed c d m k S s N n =
    ring (c ∷ d ∷ m ∷ k ∷ S ∷ s ∷ N ∷ n ∷ []) (V 2 ⊗ (V 0 ⊗ V 4 ⊖ V 1 ⊗ V 6) ⊕ V 3 ⊗ (V 0 ⊗ V 5 ⊖ V 1 ⊗ V 7))
    (V 0 ⊗ (V 2 ⊗ V 4 ⊕ V 3 ⊗ V 5) ⊖ V 1 ⊗ (V 2 ⊗ V 6 ⊕ V 3 ⊗ V 7)) tt

mixed_rest : (m k N n T t : ℤ) → mix m k (N -ℤ T) (n -ℤ t) ≡ mix m k N n -ℤ mix m k T t
mixed_rest m k N n T t = ring (m ∷ k ∷ N ∷ n ∷ T ∷ t ∷ []) (V 0 ⊗ (V 2 ⊖ V 4) ⊕ V 1 ⊗ (V 3 ⊖ V 5)) (V 0 ⊗ V 2 ⊕ V 1 ⊗ V 3 ⊖ (V 0 ⊗ V 4 ⊕ V 1 ⊗ V 5)) tt

-- where the denominator is 0, no moment is within the part but 0 / 0
none_at : (u : Part) (s n : ℤ) → IsPart u → pos 0 ≤ℤ since u s n → pos 0 ≤ℤ until u s n → n ≡ pos 0 → s ≡ pos 0
none_at u s n part after before none =
    let some = part.some in
    let first = ap (λ z. u.first *ℤ z) none ∙ times_zero u.first in
    let last = ap (λ z. u.last *ℤ z) none ∙ times_zero u.last in
    let zero = times_zero u.over in
    cancel_same u.over s (pos 0) (omega (arith, ints)) (omega (arith, ints))

place_in : (u : Part) (p : Pass) (S T N : ℤ) → IsPart u → pos 0 ≤ℤ since u S N → pos 0 ≤ℤ until u S N → pos 0 ≤ℤ T → pos 0 ≤ℤ (N -ℤ T)
    → pos 0 <ℤ deep p.z p.descent S N → IsPlaceIn u S T N
place_in u p S T N part after before a b below = record {
  moment = record { start = omega (arith, ints); finish = omega (arith, ints) };
  a = a;
  b = omega (arith, ints);
  some = by_lt_z (pos 0) N (λ l. omega (arith, ints)) (λ l.
      let none : N ≡ pos 0 = omega (arith, ints) in
      let flat : deep p.z p.descent S N ≡ pos 0 = ap₂ (λ N S. N *ℤ p.z +ℤ S *ℤ p.descent) none (none_at u S N part after before none)
      ∙ ring (p.z ∷ p.descent ∷ []) (K (pos 0) ⊗ V 0 ⊕ K (pos 0) ⊗ V 1) (K (pos 0)) tt in
      absurd (omega (arith, ints)));
}

-- the sign of the triple doesn't matter
pub turned_strictly : (u : Part) (s t n : ℤ) → IsStrictlyIn u (neg_ℤ s) (neg_ℤ t) (neg_ℤ n) ↔ IsStrictlyIn u s t n
turned_strictly u s t n =
    let e = ring (s ∷ n ∷ u.first ∷ u.last ∷ u.over ∷ []) ((V 4 ⊗ M (V 0) ⊖ V 2 ⊗ M (V 1)) ⊗ (V 3 ⊗ M (V 1) ⊖ V 4 ⊗ M (V 0))) ((V 4 ⊗ V 0 ⊖ V 2 ⊗ V 1) ⊗ (V 3 ⊗ V 1 ⊖ V 4 ⊗ V 0)) tt in
    let f = turned_product t n in (
      (λ strictly. let path = strictly.path in let edge = strictly.edge in record { path = omega (arith, ints); edge = omega (arith, ints) }),
      (λ strictly. let path = strictly.path in let edge = strictly.edge in record { path = omega (arith, ints); edge = omega (arith, ints) }),
    )

module _ (u : Part) (p : Pass) (part : IsPart u) (guarded : IsGuardedIn u p) (q : pos 0 ≤ℤ p.Q) (r : pos 0 ≤ℤ p.R)
    (S T N : ℤ) (at : IsPlaceIn u S T N) (hit : IsHit p S T N) where
  module _ (s t n : ℤ) (level_x : away p.ex p.qx p.dx s t n ≡ pos 0) (level_y : away p.ey p.qy p.dy s t n ≡ pos 0) where
    -- the border is reached at a hit
    no_exit : pos 0 ≤ℤ deep p.z p.descent s n → ¬ Exit (sides u S T N s t n)
    no_exit sinks exit =
        let m = exit.m in
        let k = exit.k in
        let within = exit.within in
        let there = hit_stays p S T N s t n m k r level_x level_y sinks exit.some exit.forth hit in
        let after = mixed u.over u.first m k S s N n in
        let before = mixed u.last u.over m k N n S s in
        let rest = mixed_rest m k N n T t in
        let from : pos 0 ≤ℤ mix m k (since u S N) (since u s n) = within.0 in
        let to : pos 0 ≤ℤ mix m k (until u S N) (until u s n) = within.1.0 in
        let b : pos 0 ≤ℤ mix m k (N -ℤ T) (n -ℤ t) = within.1.1.1.0 in
        let place = place_in u p (mix m k S s) (mix m k T t) (mix m k N n) part (omega (arith, ints)) (omega (arith, ints)) within.1.1.0 (omega (arith, ints)) there.below in
        let border : IsAtBorder u (mix m k S s) (mix m k T t) (mix m k N n) =
        elim exit.meets [
          | inl e ↦ inl (omega (arith, ints))
          | inr others ↦
              elim others [
                | inl e ↦ inr (inl (omega (arith, ints)))
                | inr edge ↦ elim edge [ inl e ↦ inr (inr (inl e)) | inr last ↦ elim last [ inl e ↦ inr (inr (inr (omega (arith, ints)))) | inr none ↦ absurd none ] ]
              ]
        ] in
        guarded _ _ _ place border there

    starts_within : (pos 0 ≤ℤ since u S N) × ((pos 0 ≤ℤ until u S N) × ((pos 0 ≤ℤ T) × ((pos 0 ≤ℤ (N -ℤ T)) × Unit {0})))
    starts_within =
        let start = at.moment.start in
        let finish = at.moment.finish in
        let b = at.b in
        (omega (arith, ints), (omega (arith, ints), (at.a, (omega (arith, ints), tt))))

    -- a direction that nears no side is a hit, at which the way is none: at the border, or strictly within
    no_meeting : (¬ IsStrictlyIn u s t n) → pos 0 <ℤ deep p.z p.descent s n → ¬ NearsNone (sides u S T N s t n)
    no_meeting apart sinks nears =
        let after : pos 0 ≤ℤ since u s n = nears.0 in
        let before : pos 0 ≤ℤ until u s n = nears.1.0 in
        let a : pos 0 ≤ℤ t = nears.1.1.0 in
        let b : pos 0 ≤ℤ (n -ℤ t) = nears.1.1.1.0 in
        let there : IsHit p s t n = near_zero p.Q p.R _ _ _ _ _ _ q level_x level_y sinks hit in
        let none = λ (border : IsAtBorder u s t n). guarded s t n (place_in u p s t n part after before a b sinks) border there in
        by_lt_z (pos 0) (since u s n)
        (λ from. by_lt_z (pos 0) (until u s n)
        (λ to. by_lt_z (pos 0) t
        (λ past. by_lt_z (pos 0) (n -ℤ t)
        (λ ahead. apart (record { path = times_pos (since u s n) (until u s n) from to; edge = times_negative t (t -ℤ n) past (omega (arith, ints)) }))
        (λ l. none (inr (inr (inr (omega (arith, ints)))))))
        (λ l. none (inr (inr (inl (omega (arith, ints)))))))
        (λ l. none (inr (inl (omega (arith, ints))))))
        (λ l. none (inl (omega (arith, ints))))

    -- in a direction in which the depth grows
    no_descent : (¬ IsStrictlyIn u s t n) → ¬ (pos 0 <ℤ deep p.z p.descent s n)
    no_descent apart sinks =
        elim (leave (sides u S T N s t n) starts_within) [
          | inl nears ↦ no_meeting apart sinks nears
          | inr exit ↦ no_exit (let least : pos 0 ≤ℤ deep p.z p.descent s n = omega (arith, ints) in least) exit
        ]

    -- in a direction in which the depth stays, and which isn't a place
    no_glide : deep p.z p.descent s n ≡ pos 0 → n ≤ℤ pos 0 → (s ≡ pos 0 → t ≡ pos 0 → n ≡ pos 0 → ⊥) → ⊥
    no_glide flat none some =
        elim (leave (sides u S T N s t n) starts_within) [
          | inl nears ↦
              (let a : pos 0 ≤ℤ t = nears.1.1.0 in
              let b : pos 0 ≤ℤ (n -ℤ t) = nears.1.1.1.0 in
              let zero : n ≡ pos 0 = omega (arith, ints) in
              some (none_at u s n part nears.0 nears.1.0 zero) (omega (arith, ints)) zero)
          | inr exit ↦ no_exit (let least : pos 0 ≤ℤ deep p.z p.descent s n = omega (arith, ints) in least) exit
        ]

  turned_deep : (s n : ℤ) → deep p.z p.descent (neg_ℤ s) (neg_ℤ n) ≡ neg_ℤ (deep p.z p.descent s n)
  turned_deep s n = ring (p.z ∷ p.descent ∷ s ∷ n ∷ []) (M (V 3) ⊗ V 0 ⊕ M (V 2) ⊗ V 1) (M (V 3 ⊗ V 0 ⊕ V 2 ⊗ V 1)) tt

  -- along any level direction that isn't none, and in which path and edge don't cross
  no_hit : (s t n : ℤ) → away p.ex p.qx p.dx s t n ≡ pos 0 → away p.ey p.qy p.dy s t n ≡ pos 0
      → (s ≡ pos 0 → t ≡ pos 0 → n ≡ pos 0 → ⊥) → (¬ IsStrictlyIn u s t n) → ⊥
  no_hit s t n level_x level_y some apart =
      let back_x = turned_away p.ex p.qx p.dx s t n level_x in
      let back_y = turned_away p.ey p.qy p.dy s t n level_y in
      let back_deep = turned_deep s n in
      by_sign (deep p.z p.descent s n)
      (λ rises. no_descent (neg_ℤ s) (neg_ℤ t) (neg_ℤ n) back_x back_y (λ strictly. apart ((turned_strictly u s t n).0 strictly)) (omega (arith, ints)))
      (λ flat. by_lt_z (pos 0) n
      (λ l. no_glide (neg_ℤ s) (neg_ℤ t) (neg_ℤ n) back_x back_y (omega (arith, ints)) (omega (arith, ints))
      (λ e f g. some (omega (arith, ints)) (omega (arith, ints)) (omega (arith, ints))))
      (λ l. no_glide s t n level_x level_y flat l some))
      (λ sinks. no_descent s t n level_x level_y apart sinks)

-- ---- the choice of the direction

-- the triple at which the lines of path and edge meet
abbrev pub cross_s : Pass → ℤ
cross_s p = p.dx *ℤ p.ey -ℤ p.dy *ℤ p.ex

abbrev pub cross_t : Pass → ℤ
cross_t p = p.qx *ℤ p.ey -ℤ p.qy *ℤ p.ex

abbrev pub cross_n : Pass → ℤ
cross_n p = p.qx *ℤ p.dy -ℤ p.qy *ℤ p.dx

abbrev pub IsCrossingIn : Part → Pass → Type 0
IsCrossingIn u p = IsStrictlyIn u (cross_s p) (cross_t p) (cross_n p)

-- with the denominator 0 nothing is strictly within
pub not_strictly : (u : Part) (s t n : ℤ) → n ≡ pos 0 → ¬ IsStrictlyIn u s t n
not_strictly u s t n none strictly =
    let path = strictly.path in
    let least = square_nonneg (u.over *ℤ s) in
    let e : since u s n *ℤ until u s n ≡ neg_ℤ ((u.over *ℤ s) *ℤ (u.over *ℤ s)) =
    ap (λ z. since u s z *ℤ until u s z) none
    ∙ ring (u.over ∷ s ∷ u.first ∷ u.last ∷ []) ((V 0 ⊗ V 1 ⊖ V 2 ⊗ K (pos 0)) ⊗ (V 3 ⊗ K (pos 0) ⊖ V 0 ⊗ V 1)) (M ((V 0 ⊗ V 1) ⊗ (V 0 ⊗ V 1))) tt in
    omega (arith, ints)

pub no_hit_in : (u : Part) (p : Pass) → IsPart u → IsGuardedIn u p → pos 0 ≤ℤ p.Q → pos 0 ≤ℤ p.R → (¬ IsCrossingIn u p) → (S T N : ℤ) → IsPlaceIn u S T N → ¬ IsHit p S T N
no_hit_in u p part guarded q r apart S T N place hit =
    let L = p.dx *ℤ p.dx +ℤ p.dy *ℤ p.dy in
    let none = no_hit u p part guarded q r S T N place hit in
    let meet = λ (some : cross_n p ≡ pos 0 → ⊥).
    none (cross_s p) (cross_t p) (cross_n p) (meets_x p.ex p.ey p.qx p.qy p.dx p.dy) (meets_y p.ex p.ey p.qx p.qy p.dx p.dy) (λ _ _ n_none. some n_none) apart in
    by_sign (cross_n p)
    (λ below. meet (λ n_none. omega (arith, ints)))
    (λ parallel. by_lt_z (pos 0) L
    (λ long. none L (p.qx *ℤ p.dx +ℤ p.qy *ℤ p.dy) (pos 0)
    (beside_x p.ex p.ey p.qx p.qy p.dx p.dy parallel) (beside_y p.ex p.ey p.qx p.qy p.dx p.dy parallel)
    (λ s_none _ _. omega (arith, ints)) (not_strictly u L (p.qx *ℤ p.dx +ℤ p.qy *ℤ p.dy) (pos 0) refl))
    (λ short. none (pos 0) (pos 1) (pos 0)
    (alone p.ex p.qx p.dx (squares_zero p.dx p.dy short).0) (alone p.ey p.qy p.dy (squares_zero p.dx p.dy short).1)
    (λ _ t_none _. omega (arith, ints)) (not_strictly u (pos 0) (pos 1) (pos 0) refl)))
    (λ above. meet (λ n_none. omega (arith, ints)))
