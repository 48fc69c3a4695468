-- The law of a motion over a part of its moments, the other way round: where a test fails there is a hit, which is named.
use Rattle.std.proofs.Common.{◌≡◌, ◌⊎◌, inl, inr, ℕ, ◌≤◌, ℤ, pos, ◌+ℤ◌, ◌-ℤ◌, ◌*ℤ◌, ◌≤ℤ◌, ◌<ℤ◌, neg_ℤ, [], ◌∷◌, arith, ap, ap₂, ◌∙◌}
use Rattle.std.proofs.lemmas.Int.{ints, by_lt_z}
use Rattle.integer_algebra.proofs.Ring.{ring, V, K, ◌⊕◌, ◌⊖◌, ◌⊗◌}
use Rattle.integer_algebra.proofs.Order.{by_sign, square_nonneg, times_nonneg, times_nonpos, times_of_negative, times_pos, times_le, times_zero, sign_of_nonneg, sign_of_pos}
use Rattle.plane_exact.specs.Cone.{Cone}
use Rattle.plane_exact.specs.Distance.{square}
use Rattle.plane_exact.specs.Plane.{GridPoint}
use Rattle.plane_exact.specs.Product.{cross_of}
use Rattle.plane_exact.specs.declared.point.Seg.{Seg}
use Rattle.plane_exact.proofs.Nearest.{IsNearer, nearer_or_off}
use Rattle.engrave_model.specs.Depth.{IsEdgeClear}
use Rattle.swept_move.specs.Part.{Part, IsPart, IsInPart, IsNotNegativeIn}
use Rattle.swept_move.specs.Sweep.{Sweep, End, IsAt, IsFlat, IsDeepSweep, IsSweep, IsSweepCrossing, PassesSweep, SweepConverseLaw, side_of, sweep_margin}
use Rattle.swept_move.proofs.Meetings.{at_a, at_b, meets_x, meets_y, turned_away}
use Rattle.swept_move.proofs.Border.{margin_value}
use Rattle.swept_move.proofs.Distances.{clear_is_off, near_of}
use Rattle.swept_move.proofs.Hits.{Pass, away, deep, near_mixed}
use Rattle.swept_move.proofs.Parts.{IsSomewhereNegative, negative_or_not}
use Rattle.swept_move.proofs.Staying.{IsCrossingIn, IsPlaceIn, IsStrictlyIn, cross_n, cross_s, cross_t, not_strictly, since, turned_strictly, until}
use Rattle.swept_move.proofs.Sweeps.{HasHit, at_moment, crossing_is, end_way, pass_of, touched_of_hit}

-- ---- the depth within the part, by those at its ends

between_depths : (u : Part) (z descent S N : ℤ) → (u.last -ℤ u.first) *ℤ (u.over *ℤ deep z descent S N) ≡ until u S N *ℤ deep z descent u.first u.over +ℤ since u S N *ℤ deep z descent u.last u.over
between_depths u z descent S N =
    ring (u.first ∷ u.last ∷ u.over ∷ z ∷ descent ∷ S ∷ N ∷ []) ((V 1 ⊖ V 0) ⊗ (V 2 ⊗ (V 6 ⊗ V 3 ⊕ V 5 ⊗ V 4)))
    ((V 1 ⊗ V 6 ⊖ V 2 ⊗ V 5) ⊗ (V 2 ⊗ V 3 ⊕ V 0 ⊗ V 4) ⊕ (V 2 ⊗ V 5 ⊖ V 0 ⊗ V 6) ⊗ (V 2 ⊗ V 3 ⊕ V 1 ⊗ V 4)) tt

module _ (u : Part) (z descent S N : ℤ) (part : IsPart u) (first : pos 0 ≤ℤ deep z descent u.first u.over) (last : pos 0 ≤ℤ deep z descent u.last u.over) where
  abbrev D : ℤ
  D = deep z descent S N

  depth_nonneg : IsInPart u S N → pos 0 ≤ℤ D
  depth_nonneg within =
      let some = part.some in
      let long = part.long in
      let start = within.start in
      let finish = within.finish in
      let p = times_nonneg (until u S N) (deep z descent u.first u.over) (omega (arith, ints)) first in
      let q = times_nonneg (since u S N) (deep z descent u.last u.over) (omega (arith, ints)) last in
      let e = between_depths u z descent S N in
      sign_of_nonneg u.over D (omega (arith, ints)) (sign_of_nonneg (u.last -ℤ u.first) (u.over *ℤ D) (omega (arith, ints)) (omega (arith, ints)))

  -- strictly within it is above 0, where it is at an end
  depth_pos : pos 0 <ℤ since u S N → pos 0 <ℤ until u S N → (pos 0 <ℤ deep z descent u.first u.over) ⊎ (pos 0 <ℤ deep z descent u.last u.over) → pos 0 <ℤ D
  depth_pos after before sunk =
      let some = part.some in
      let long = part.long in
      let p = times_nonneg (until u S N) (deep z descent u.first u.over) (omega (arith, ints)) first in
      let q = times_nonneg (since u S N) (deep z descent u.last u.over) (omega (arith, ints)) last in
      let e = between_depths u z descent S N in
      let sum : pos 0 <ℤ ((u.last -ℤ u.first) *ℤ (u.over *ℤ D)) =
      elim sunk [
        | inl h ↦ (let r = times_pos (until u S N) (deep z descent u.first u.over) before h in omega (arith, ints))
        | inr h ↦ (let r = times_pos (since u S N) (deep z descent u.last u.over) after h in omega (arith, ints))
      ] in
      sign_of_pos u.over D (omega (arith, ints)) (sign_of_pos (u.last -ℤ u.first) (u.over *ℤ D) (omega (arith, ints)) sum)

-- ---- an end of the part

-- N e + T d, in one coordinate
abbrev along : (e d T N : ℤ) → ℤ
along e d T N = N *ℤ e +ℤ T *ℤ d

module _ (cone : Cone) (sw : Sweep) (e : Seg) (part : IsPart sw.part) where
  abbrev p : Pass
  p = pass_of cone sw e

  abbrev o : ℤ
  o = sw.part.over

  -- the moment k / over, and the point T / N of the edge
  place_at_end : (k T N : ℤ) → sw.part.first ≤ℤ k → k ≤ℤ sw.part.last → pos 0 ≤ℤ T → T ≤ℤ N → pos 1 ≤ℤ N → IsPlaceIn sw.part (k *ℤ N) (o *ℤ T) (o *ℤ N)
  place_at_end k T N from to a b whole =
      let u = sw.part in
      let some = part.some in
      let least = times_pos o N (omega (arith, ints)) (omega (arith, ints)) in
      let after = times_nonneg (o *ℤ N) (k -ℤ u.first) (omega (arith, ints)) (omega (arith, ints)) in
      let before = times_nonneg (o *ℤ N) (u.last -ℤ k) (omega (arith, ints)) (omega (arith, ints)) in
      let e = ring (o ∷ N ∷ k ∷ u.first ∷ []) ((V 0 ⊗ V 1) ⊗ (V 2 ⊖ V 3)) (V 0 ⊗ (V 2 ⊗ V 1) ⊖ V 3 ⊗ (V 0 ⊗ V 1)) tt in
      let f = ring (o ∷ N ∷ k ∷ u.last ∷ []) ((V 0 ⊗ V 1) ⊗ (V 3 ⊖ V 2)) (V 3 ⊗ (V 0 ⊗ V 1) ⊖ V 0 ⊗ (V 2 ⊗ V 1)) tt in
      record {
        moment = record { start = omega (arith, ints); finish = omega (arith, ints) };
        a = times_nonneg o T (omega (arith, ints)) a;
        b = times_le o T N (omega (arith, ints)) b;
        some = omega (arith, ints);
      }

  way_scaled : (k T N f g a b c : ℤ) → o *ℤ c ≡ o *ℤ f +ℤ k *ℤ (g -ℤ f) → away (f -ℤ a) (g -ℤ f) (b -ℤ a) (k *ℤ N) (o *ℤ T) (o *ℤ N) ≡ o *ℤ along (c -ℤ a) (a -ℤ b) T N
  way_scaled k T N f g a b c here =
      end_way o k (k *ℤ N) (o *ℤ T) (o *ℤ N) f g a b c part.some (ring (o ∷ k ∷ N ∷ []) (V 0 ⊗ (V 1 ⊗ V 2)) (V 1 ⊗ (V 0 ⊗ V 2)) tt) here
      ∙ ring (o ∷ T ∷ N ∷ a ∷ b ∷ c ∷ []) ((V 0 ⊗ V 2) ⊗ (V 5 ⊖ V 3) ⊖ (V 0 ⊗ V 1) ⊗ (V 4 ⊖ V 3)) (V 0 ⊗ (V 2 ⊗ (V 5 ⊖ V 3) ⊕ V 1 ⊗ (V 3 ⊖ V 4))) tt

  module _ (k : ℤ) (c : End) where
    abbrev radius : ℤ
    radius = square (pos cone.sn) *ℤ (pos c.z *ℤ pos c.z)

    hit_at_end : sw.part.first ≤ℤ k → k ≤ℤ sw.part.last → IsAt sw k c
        → IsNearer radius (square (pos cone.sd)) (c.p.x -ℤ e.a.x) (c.p.y -ℤ e.a.y) (e.a.x -ℤ e.b.x) (e.a.y -ℤ e.b.y) → HasHit sw.part p
    hit_at_end from to here nearer =
        let T = nearer.at.k in
        let N = nearer.at.n in
        let some = part.some in
        let whole = nearer.at.some in
        let close = nearer.near in
        let depth = at_moment o k (k *ℤ N) (o *ℤ N) sw.z sw.descent (pos c.z) some (ring (o ∷ k ∷ N ∷ []) (V 0 ⊗ (V 1 ⊗ V 2)) (V 1 ⊗ (V 0 ⊗ V 2)) tt) here.depth in
        let turned = ring (o ∷ N ∷ pos c.z ∷ []) ((V 0 ⊗ V 1) ⊗ V 2) (V 0 ⊗ (V 1 ⊗ V 2)) tt in
        let wide = ring (square (pos cone.sn) ∷ pos c.z ∷ N ∷ []) ((V 0 ⊗ (V 1 ⊗ V 1)) ⊗ (V 2 ⊗ V 2)) (V 0 ⊗ ((V 2 ⊗ V 1) ⊗ (V 2 ⊗ V 1))) tt in
        let near = near_of p.Q p.R (along (c.p.x -ℤ e.a.x) (e.a.x -ℤ e.b.x) T N) (along (c.p.y -ℤ e.a.y) (e.a.y -ℤ e.b.y) T N) (N *ℤ pos c.z) (square_nonneg (pos cone.sd))
        (times_nonneg N (pos c.z) (omega (arith, ints)) (omega (arith, ints))) (omega (arith, ints)) in
        record {
          S = k *ℤ N;
          T = o *ℤ T;
          N = o *ℤ N;
          place = place_at_end k T N from to nearer.at.start nearer.at.finish whole;
          hit = near_mixed p.Q p.R _ _ (N *ℤ pos c.z) o _ _ _ (square_nonneg (pos cone.sn)) (omega (arith, ints))
              (way_scaled k T N sw.from.x sw.to.x e.a.x e.b.x c.p.x here.across) (way_scaled k T N sw.from.y sw.to.y e.a.y e.b.y c.p.y here.up)
              (omega (arith, ints)) near;
        }

    flat_clear : c.z ≡ 0 → IsEdgeClear cone c.p c.z e
    unfolding IsEdgeClear
    flat_clear flat w on inside = let below = inside.deep in absurd (omega (arith, ints))

    end_or_hit : sw.part.first ≤ℤ k → k ≤ℤ sw.part.last → IsAt sw k c ⊎ IsFlat sw k c → HasHit sw.part p ⊎ IsEdgeClear cone c.p c.z e
    end_or_hit from to end =
        elim end [
          | inl here ↦
              elim (nearer_or_off radius (square (pos cone.sd)) (c.p.x -ℤ e.a.x) (c.p.y -ℤ e.a.y) (e.a.x -ℤ e.b.x) (e.a.y -ℤ e.b.y) (square_nonneg (pos cone.sd))) [
                | inl nearer ↦ inl (hit_at_end from to here nearer)
                | inr off ↦ inr ((clear_is_off cone c.p c.z e).0 off)
              ]
          | inr level ↦ inr (flat_clear level.flat)
        ]

-- ---- an end v of the edge

module _ (cone : Cone) (sw : Sweep) (e : Seg) (part : IsPart sw.part)
    (first : pos 0 ≤ℤ deep sw.z sw.descent sw.part.first sw.part.over) (last : pos 0 ≤ℤ deep sw.z sw.descent sw.part.last sw.part.over) where
  hit_at_corner : (v : GridPoint) (negative : IsSomewhereNegative sw.part (sweep_margin cone sw v)) (T : ℤ) → pos 0 ≤ℤ T → T ≤ℤ negative.n
      → away (sw.from.x -ℤ e.a.x) (sw.to.x -ℤ sw.from.x) (e.b.x -ℤ e.a.x) negative.k T negative.n ≡ negative.n *ℤ (sw.from.x -ℤ v.x) +ℤ negative.k *ℤ (sw.to.x -ℤ sw.from.x)
      → away (sw.from.y -ℤ e.a.y) (sw.to.y -ℤ sw.from.y) (e.b.y -ℤ e.a.y) negative.k T negative.n ≡ negative.n *ℤ (sw.from.y -ℤ v.y) +ℤ negative.k *ℤ (sw.to.y -ℤ sw.from.y)
      → HasHit sw.part (pass_of cone sw e)
  hit_at_corner v negative T a b ex ey =
      let p : Pass = pass_of cone sw e in
      let S = negative.k in
      let N = negative.n in
      let below = negative.below in
      let value = margin_value p.Q p.R (sw.from.x -ℤ v.x) (sw.from.y -ℤ v.y) p.qx p.qy p.z p.descent S N in
      let far = ap₂ (λ x y. p.Q *ℤ (x *ℤ x +ℤ y *ℤ y)) ex ey in
      record {
        S = S;
        T = T;
        N = N;
        place = record { moment = negative.within; a = a; b = b; some = negative.some };
        hit = near_of p.Q p.R _ _ (deep p.z p.descent S N) (square_nonneg (pos cone.sd)) (depth_nonneg sw.part p.z p.descent S N part first last negative.within) (omega (arith, ints));
      }

  corner_a_or_hit : HasHit sw.part (pass_of cone sw e) ⊎ IsNotNegativeIn sw.part (sweep_margin cone sw e.a)
  corner_a_or_hit =
      elim (negative_or_not sw.part (sweep_margin cone sw e.a) part) [
        | inl h ↦ (let some = h.some in
            inl (hit_at_corner e.a h (pos 0) (record { le = tt }) (omega (arith, ints))
            (at_a sw.from.x sw.to.x e.a.x e.b.x h.k h.n) (at_a sw.from.y sw.to.y e.a.y e.b.y h.k h.n)))
        | inr above ↦ inr above
      ]

  corner_b_or_hit : HasHit sw.part (pass_of cone sw e) ⊎ IsNotNegativeIn sw.part (sweep_margin cone sw e.b)
  corner_b_or_hit =
      elim (negative_or_not sw.part (sweep_margin cone sw e.b) part) [
        | inl h ↦ (let some = h.some in
            inl (hit_at_corner e.b h h.n (omega (arith, ints)) (omega (arith, ints))
            (at_b sw.from.x sw.to.x e.a.x e.b.x h.k h.n) (at_b sw.from.y sw.to.y e.a.y e.b.y h.k h.n)))
        | inr above ↦ inr above
      ]

-- ---- a crossing

-- path and edge meet at a place strictly within the part
pub record IsMet (u : Part) (p : Pass) : Type 0 where
  pub S : ℤ
  pub T : ℤ
  pub N : ℤ
  pub place : IsPlaceIn u S T N
  pub across : away p.ex p.qx p.dx S T N ≡ pos 0
  pub up : away p.ey p.qy p.dy S T N ≡ pos 0
  pub after : pos 0 <ℤ since u S N
  pub before : pos 0 <ℤ until u S N

-- of two numbers whose product and sum are above 0
factor_pos : (a b : ℤ) → pos 0 <ℤ (a *ℤ b) → pos 0 <ℤ (a +ℤ b) → pos 0 <ℤ a
factor_pos a b product sum = by_lt_z (pos 0) a (λ l. l) (λ l.
    let turned = ring (a ∷ b ∷ []) (V 0 ⊗ V 1) (V 1 ⊗ V 0) tt in
    let p = times_nonpos b a (omega (arith, ints)) l in
    absurd (omega (arith, ints)))

met_at : (u : Part) (p : Pass) (s t n : ℤ) → IsPart u → pos 0 <ℤ n → away p.ex p.qx p.dx s t n ≡ pos 0 → away p.ey p.qy p.dy s t n ≡ pos 0 → IsStrictlyIn u s t n → IsMet u p
met_at u p s t n part whole across up strictly =
    let long = part.long in
    let path = strictly.path in
    let edge = strictly.edge in
    let sum = ring (u.first ∷ u.last ∷ u.over ∷ s ∷ n ∷ []) ((V 2 ⊗ V 3 ⊖ V 0 ⊗ V 4) ⊕ (V 1 ⊗ V 4 ⊖ V 2 ⊗ V 3)) (V 4 ⊗ (V 1 ⊖ V 0)) tt in
    let turned = ring (u.first ∷ u.last ∷ u.over ∷ s ∷ n ∷ []) ((V 2 ⊗ V 3 ⊖ V 0 ⊗ V 4) ⊗ (V 1 ⊗ V 4 ⊖ V 2 ⊗ V 3)) ((V 1 ⊗ V 4 ⊖ V 2 ⊗ V 3) ⊗ (V 2 ⊗ V 3 ⊖ V 0 ⊗ V 4)) tt in
    let wide = times_pos n (u.last -ℤ u.first) whole (omega (arith, ints)) in
    let after = factor_pos (since u s n) (until u s n) path (omega (arith, ints)) in
    let before = factor_pos (until u s n) (since u s n) (omega (arith, ints)) (omega (arith, ints)) in
    record {
      S = s;
      T = t;
      N = n;
      place = record {
        moment = record { start = omega (arith, ints); finish = omega (arith, ints) };
        a = by_lt_z t (pos 0) (λ l. let q = times_of_negative t (t -ℤ n) l (omega (arith, ints)) in absurd (omega (arith, ints))) (λ l. l);
        b = by_lt_z n t (λ l. let q = times_nonneg t (t -ℤ n) (omega (arith, ints)) (omega (arith, ints)) in absurd (omega (arith, ints))) (λ l. l);
        some = omega (arith, ints);
      };
      across = across;
      up = up;
      after = after;
      before = before;
    }

-- path and edge that cross meet, whatever the sign of the triple
pub crossing_met : (u : Part) (p : Pass) → IsPart u → IsCrossingIn u p → IsMet u p
crossing_met u p part strictly =
    let s = cross_s p in
    let t = cross_t p in
    let n = cross_n p in
    let across = meets_x p.ex p.ey p.qx p.qy p.dx p.dy in
    let up = meets_y p.ex p.ey p.qx p.qy p.dx p.dy in
    by_sign n
    (λ below. met_at u p (neg_ℤ s) (neg_ℤ t) (neg_ℤ n) part (omega (arith, ints)) (turned_away p.ex p.qx p.dx s t n across) (turned_away p.ey p.qy p.dy s t n up) ((turned_strictly u s t n).1 strictly))
    (λ none. absurd (not_strictly u s t n none strictly))
    (λ above. met_at u p s t n part above across up strictly)

hit_of_met : (u : Part) (p : Pass) → pos 0 <ℤ p.R → (met : IsMet u p) → pos 0 <ℤ deep p.z p.descent met.S met.N → HasHit u p
hit_of_met u p steep met below =
    let D = deep p.z p.descent met.S met.N in
    let wide = times_pos p.R (D *ℤ D) steep (times_pos D D below below) in
    let none = ap₂ (λ x y. p.Q *ℤ (x *ℤ x +ℤ y *ℤ y)) met.across met.up ∙ times_zero p.Q in
    record { S = met.S; T = met.T; N = met.N; place = met.place; hit = record { below = below; close = omega (arith, ints) } }

-- ---- the law

end_depth : (sw : Sweep) (k : ℤ) (c : End) → pos 1 ≤ℤ sw.part.over → IsAt sw k c ⊎ IsFlat sw k c → deep sw.z sw.descent k sw.part.over ≡ sw.part.over *ℤ pos c.z
end_depth sw k c some end =
    elim end [
      | inl here ↦ here.depth
      | inr level ↦ level.level ∙ (let none = times_zero sw.part.over in ring (sw.part.over ∷ []) (K (pos 0)) (V 0 ⊗ K (pos 0)) tt) ∙ ap (λ n. sw.part.over *ℤ pos n) (flat level.flat)
    ]
  where
    flat : {n : ℕ} → n ≡ 0 → 0 ≡ n
    flat e = omega arith

both : {A B C : Type 0} → A ⊎ B → A ⊎ C → A ⊎ (B × C)
both (inl a) other = inl a
both (inr b) (inl a) = inl a
both (inr b) (inr c) = inr (b, c)

module _ (cone : Cone) (sw : Sweep) (first last : End) (e : Seg) (is : IsSweep sw first last) where
  first_depth : deep sw.z sw.descent sw.part.first sw.part.over ≡ sw.part.over *ℤ pos first.z
  first_depth = end_depth sw sw.part.first first is.part.some is.start

  last_depth : deep sw.z sw.descent sw.part.last sw.part.over ≡ sw.part.over *ℤ pos last.z
  last_depth = end_depth sw sw.part.last last is.part.some is.finish

  first_least : pos 0 ≤ℤ deep sw.z sw.descent sw.part.first sw.part.over
  first_least = let some = is.part.some in let e = first_depth in let p = times_nonneg sw.part.over (pos first.z) (omega (arith, ints)) (omega (arith, ints)) in omega (arith, ints)

  last_least : pos 0 ≤ℤ deep sw.z sw.descent sw.part.last sw.part.over
  last_least = let some = is.part.some in let e = last_depth in let p = times_nonneg sw.part.over (pos last.z) (omega (arith, ints)) (omega (arith, ints)) in omega (arith, ints)

  -- there is a hit, or the motion passes the tests as far as it doesn't cross the edge
  pub hit_or_passes_apart : HasHit sw.part (pass_of cone sw e) ⊎ ((¬ IsSweepCrossing sw e) → PassesSweep cone sw first last e)
  hit_or_passes_apart =
      let long = is.part.long in
      elim (both (both (end_or_hit cone sw e is.part sw.part.first first (omega (arith, ints)) (omega (arith, ints)) is.start) (end_or_hit cone sw e is.part sw.part.last last (omega (arith, ints)) (omega (arith, ints)) is.finish))
      (both (corner_a_or_hit cone sw e is.part first_least last_least) (corner_b_or_hit cone sw e is.part first_least last_least))) [
        | inl hit ↦ inl hit
        | inr clear ↦ inr (λ apart. record { start = clear.0.0; finish = clear.0.1; corner_a = clear.1.0; corner_b = clear.1.1; apart = apart })
      ]

  -- where it crosses it, and goes below the surface, there is a hit
  hit_of_crossing : 1 ≤ cone.sn → IsDeepSweep first last → IsSweepCrossing sw e → HasHit sw.part (pass_of cone sw e)
  hit_of_crossing steep sinks crossing =
      let p : Pass = pass_of cone sw e in
      let some = is.part.some in
      let met = crossing_met sw.part p is.part ((crossing_is cone sw e).0 crossing) in
      let sunk : (pos 0 <ℤ deep sw.z sw.descent sw.part.first sw.part.over) ⊎ (pos 0 <ℤ deep sw.z sw.descent sw.part.last sw.part.over) =
      elim sinks [
        | inl h ↦ inl (let e = first_depth in let q = times_pos sw.part.over (pos first.z) (omega (arith, ints)) (omega (arith, ints)) in omega (arith, ints))
        | inr h ↦ inr (let e = last_depth in let q = times_pos sw.part.over (pos last.z) (omega (arith, ints)) (omega (arith, ints)) in omega (arith, ints))
      ] in
      hit_of_met sw.part p (times_pos (pos cone.sn) (pos cone.sn) (omega (arith, ints)) (omega (arith, ints))) met
      (depth_pos sw.part sw.z sw.descent met.S met.N is.part first_least last_least met.after met.before sunk)

crossing_or_not : (sw : Sweep) (e : Seg) → IsSweepCrossing sw e ⊎ (¬ IsSweepCrossing sw e)
crossing_or_not sw e =
    let apart : (¬ IsSweepCrossing sw e) → IsSweepCrossing sw e ⊎ (¬ IsSweepCrossing sw e) = inr in
    by_lt_z (side_of sw e sw.part.first *ℤ side_of sw e sw.part.last) (pos 0)
    (λ path. by_lt_z (cross_of sw.from sw.to e.a *ℤ cross_of sw.from sw.to e.b) (pos 0)
    (λ edge. inl (record { path = path; edge = edge }))
    (λ l. apart (λ crossing. let edge = crossing.edge in omega (arith, ints))))
    (λ l. apart (λ crossing. let path = crossing.path in omega (arith, ints)))

pub touches_or_passes : SweepConverseLaw
touches_or_passes cone sw first last e steep is sinks =
    let touched = touched_of_hit cone sw first last e is in
    elim (hit_or_passes_apart cone sw first last e is) [
      | inl hit ↦ inl (touched hit)
      | inr passes ↦
          elim (crossing_or_not sw e) [
            | inl crossing ↦ inl (touched (hit_of_crossing cone sw first last e is steep sinks crossing))
            | inr apart ↦ inr (passes apart)
          ]
    ]
