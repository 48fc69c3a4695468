-- A motion over a part of its moments as a pass over an edge: what the bit reaches are the hits of the pass, and the tests are
-- about hits at the border of the part and the edge. So a motion that passes the tests reaches no point of the edge.
use Rattle.std.proofs.Common.{◌≡◌, ◌↔◌, ◌⊎◌, inl, inr, ℤ, pos, ◌+ℤ◌, ◌-ℤ◌, ◌*ℤ◌, ◌≤ℤ◌, ◌<ℤ◌, neg_ℤ, [], ◌∷◌, arith, refl, ap, ap₂, subst, ◌∙◌}
use Rattle.std.proofs.lemmas.Int.{ints}
use Rattle.integer_algebra.proofs.Ring.{ring, V, M, ◌⊕◌, ◌⊖◌, ◌⊗◌}
use Rattle.integer_algebra.proofs.Order.{square_nonneg, times_nonneg, times_pos, times_le, times_lt, cancel_le, cancel_same, sign_of_nonneg}
use Rattle.plane_exact.specs.Cone.{Cone}
use Rattle.plane_exact.specs.Distance.{square}
use Rattle.plane_exact.specs.Plane.{GridPoint, RationalPoint, IsBetween}
use Rattle.plane_exact.specs.declared.point.Seg.{Seg}
use Rattle.plane_exact.proofs.Places.{at, between}
use Rattle.engrave_model.specs.Depth.{IsEdgeClear}
use Rattle.engrave_model.specs.Removal.{Moment}
use Rattle.swept_move.specs.Part.{Part, IsPart, IsInPart, IsNotNegativeIn}
use Rattle.swept_move.specs.Sweep.{Sweep, End, IsAt, IsFlat, IsReached, IsSweep, IsSweepCrossing, IsTouched, PassesSweep, SweepLaw, sweep_depth, sweep_margin}
use Rattle.swept_move.proofs.Meetings.{at_a, at_b, edge_parted}
use Rattle.swept_move.proofs.Hits.{Pass, IsNear, IsHit, away, deep}
use Rattle.swept_move.proofs.Border.{corner_off, end_clear}
use Rattle.swept_move.proofs.Parts.{not_negative}
use Rattle.swept_move.proofs.Removing.{near_there, way_there}
use Rattle.swept_move.proofs.Staying.{IsCrossingIn, IsGuardedIn, IsPlaceIn, no_hit_in}

abbrev pub pass_of : Cone → Sweep → Seg → Pass
pass_of cone sw e = record {
  Q = square (pos cone.sd);
  R = square (pos cone.sn);
  ex = sw.from.x -ℤ e.a.x;
  ey = sw.from.y -ℤ e.a.y;
  qx = sw.to.x -ℤ sw.from.x;
  qy = sw.to.y -ℤ sw.from.y;
  dx = e.b.x -ℤ e.a.x;
  dy = e.b.y -ℤ e.a.y;
  z = sw.z;
  descent = sw.descent;
}

-- a hit at a place of the part and the edge
pub record HasHit (u : Part) (p : Pass) : Type 0 where
  pub S : ℤ
  pub T : ℤ
  pub N : ℤ
  pub place : IsPlaceIn u S T N
  pub hit : IsHit p S T N

-- ---- what is reached is a hit

place_of : (u : Part) (k n j o : ℤ) → IsInPart u k n → pos 1 ≤ℤ n → pos 0 ≤ℤ j → j ≤ℤ o → pos 1 ≤ℤ o → IsPlaceIn u (k *ℤ o) (j *ℤ n) (n *ℤ o)
place_of u k n j o within some a b whole =
    let from = times_le o (u.first *ℤ n) (u.over *ℤ k) (omega (arith, ints)) within.start in
    let to = times_le o (u.over *ℤ k) (u.last *ℤ n) (omega (arith, ints)) within.finish in
    let first = ring (o ∷ n ∷ u.first ∷ []) (V 0 ⊗ (V 2 ⊗ V 1)) (V 2 ⊗ (V 1 ⊗ V 0)) tt in
    let last = ring (o ∷ n ∷ u.last ∷ []) (V 0 ⊗ (V 2 ⊗ V 1)) (V 2 ⊗ (V 1 ⊗ V 0)) tt in
    let now = ring (o ∷ k ∷ u.over ∷ []) (V 0 ⊗ (V 2 ⊗ V 1)) (V 2 ⊗ (V 1 ⊗ V 0)) tt in
    let rest = times_le n j o (omega (arith, ints)) b in
    let turned = ring (n ∷ j ∷ []) (V 0 ⊗ V 1) (V 1 ⊗ V 0) tt in
    let least = times_pos n o (omega (arith, ints)) (omega (arith, ints)) in
    record {
      moment = record { start = omega (arith, ints); finish = omega (arith, ints) };
      a = times_nonneg j n a (omega (arith, ints));
      b = omega (arith, ints);
      some = omega (arith, ints);
    }

module _ (cone : Cone) (sw : Sweep) (e : Seg) where
  abbrev p : Pass
  p = pass_of cone sw e

  hit_of_reached : (s : Moment) (w : RationalPoint) (on : IsBetween e.a e.b w) → IsReached cone sw s w → IsHit p (s.k *ℤ on.at.n) (on.at.k *ℤ s.n) (s.n *ℤ on.at.n)
  hit_of_reached s w on reached =
      let some = on.at.some in
      let depth = ring (sw.z ∷ sw.descent ∷ s.k ∷ s.n ∷ on.at.n ∷ []) (V 4 ⊗ (V 3 ⊗ V 0 ⊕ V 2 ⊗ V 1)) ((V 3 ⊗ V 4) ⊗ V 0 ⊕ (V 2 ⊗ V 4) ⊗ V 1) tt in
      subst (λ d. IsNear p.Q p.R (away p.ex p.qx p.dx (s.k *ℤ on.at.n) (on.at.k *ℤ s.n) (s.n *ℤ on.at.n)) (away p.ey p.qy p.dy (s.k *ℤ on.at.n) (on.at.k *ℤ s.n) (s.n *ℤ on.at.n)) d) depth
      (near_there (pos cone.sd) (pos cone.sn) s.n w.over on.at.n _ _ (sweep_depth sw s) _ _ (omega (arith, ints))
      (way_there sw.from.x sw.to.x e.a.x e.b.x w.x w.over s.k s.n on.at.k on.at.n on.across)
      (way_there sw.from.y sw.to.y e.a.y e.b.y w.y w.over s.k s.n on.at.k on.at.n on.up)
      reached.deep reached.close)

  pub hit_of_touched : IsTouched cone sw e → HasHit sw.part p
  hit_of_touched touched =
      let s = touched.moment in
      let on = touched.on in
      record {
        S = s.k *ℤ on.at.n;
        T = on.at.k *ℤ s.n;
        N = s.n *ℤ on.at.n;
        place = place_of sw.part s.k s.n on.at.k on.at.n touched.within s.some on.at.start on.at.finish on.at.some;
        hit = hit_of_reached s touched.point on touched.reached;
      }

-- ---- and a hit is reached

way_of : (f g a b S T N : ℤ) → (N *ℤ a +ℤ T *ℤ (b -ℤ a)) *ℤ N -ℤ ((N -ℤ S) *ℤ f +ℤ S *ℤ g) *ℤ N ≡ neg_ℤ (N *ℤ away (f -ℤ a) (g -ℤ f) (b -ℤ a) S T N)
way_of f g a b S T N =
    ring (f ∷ g ∷ a ∷ b ∷ S ∷ T ∷ N ∷ []) ((V 6 ⊗ V 2 ⊕ V 5 ⊗ (V 3 ⊖ V 2)) ⊗ V 6 ⊖ ((V 6 ⊖ V 4) ⊗ V 0 ⊕ V 4 ⊗ V 1) ⊗ V 6)
    (M (V 6 ⊗ (V 6 ⊗ (V 0 ⊖ V 2) ⊕ V 4 ⊗ (V 1 ⊖ V 0) ⊖ V 5 ⊗ (V 3 ⊖ V 2)))) tt

-- a point at the way -N x / N^2, in the disc of the depth D / N
closer_there : (sd sn N X Y D x y : ℤ) → pos 0 <ℤ N → X ≡ neg_ℤ (N *ℤ x) → Y ≡ neg_ℤ (N *ℤ y) → (square sd *ℤ (x *ℤ x +ℤ y *ℤ y)) <ℤ (square sn *ℤ (D *ℤ D))
    → ((square X +ℤ square Y) *ℤ square (sd *ℤ N)) <ℤ (square (sn *ℤ D) *ℤ square (N *ℤ N))
closer_there sd sn N X Y D x y some ex ey close =
    let once = times_pos N N some some in
    let scaled = times_lt ((N *ℤ N) *ℤ (N *ℤ N)) (square sd *ℤ (x *ℤ x +ℤ y *ℤ y)) (square sn *ℤ (D *ℤ D)) (times_pos (N *ℤ N) (N *ℤ N) once once) close in
    let far = ap₂ (λ u v. (u *ℤ u +ℤ v *ℤ v) *ℤ square (sd *ℤ N)) ex ey in
    let whole = (V 1 ⊗ V 1) ⊗ (V 1 ⊗ V 1) in
    let left = ring (sd ∷ N ∷ x ∷ y ∷ []) ((M (V 1 ⊗ V 2) ⊗ M (V 1 ⊗ V 2) ⊕ M (V 1 ⊗ V 3) ⊗ M (V 1 ⊗ V 3)) ⊗ ((V 0 ⊗ V 1) ⊗ (V 0 ⊗ V 1))) (whole ⊗ ((V 0 ⊗ V 0) ⊗ (V 2 ⊗ V 2 ⊕ V 3 ⊗ V 3))) tt in
    let right = ring (sn ∷ N ∷ D ∷ []) (((V 0 ⊗ V 2) ⊗ (V 0 ⊗ V 2)) ⊗ ((V 1 ⊗ V 1) ⊗ (V 1 ⊗ V 1))) (whole ⊗ ((V 0 ⊗ V 0) ⊗ (V 2 ⊗ V 2))) tt in
    omega (arith, ints)

-- a moment of the part is one of the whole motion
pub whole_start : (u : Part) (k n : ℤ) → pos 1 ≤ℤ u.over → pos 0 ≤ℤ u.first → IsInPart u k n → pos 1 ≤ℤ n → pos 0 ≤ℤ k
whole_start u k n some least within whole =
    let from = within.start in
    let first = times_nonneg u.first n least (omega (arith, ints)) in
    sign_of_nonneg u.over k (omega (arith, ints)) (omega (arith, ints))

pub whole_finish : (u : Part) (k n : ℤ) → pos 1 ≤ℤ u.over → u.last ≤ℤ u.over → IsInPart u k n → pos 1 ≤ℤ n → k ≤ℤ n
whole_finish u k n some most within whole =
    let to = within.finish in
    let rest = times_nonneg (u.over -ℤ u.last) n (omega (arith, ints)) (omega (arith, ints)) in
    let e = ring (u.over ∷ u.last ∷ n ∷ []) ((V 0 ⊖ V 1) ⊗ V 2) (V 0 ⊗ V 2 ⊖ V 1 ⊗ V 2) tt in
    cancel_le u.over k n (omega (arith, ints)) (omega (arith, ints))

module _ (cone : Cone) (sw : Sweep) (first last : End) (e : Seg) (is : IsSweep sw first last) where
  pub touched_of_hit : HasHit sw.part (pass_of cone sw e) → IsTouched cone sw e
  touched_of_hit h =
      let place = h.place in
      let some = place.some in
      let point = at e.a e.b h.T h.N some in
      record {
        moment = record {
          k = h.S;
          n = h.N;
          start = whole_start sw.part h.S h.N is.part.some is.least place.moment some;
          finish = whole_finish sw.part h.S h.N is.part.some is.most place.moment some;
          some = some;
        };
        within = place.moment;
        point = point;
        on = between e.a e.b h.T point place.a place.b (record { across = refl; up = refl });
        reached = record {
          deep = h.hit.below;
          close = closer_there (pos cone.sd) (pos cone.sn) h.N _ _ (deep sw.z sw.descent h.S h.N) _ _ (omega (arith, ints))
              (way_of sw.from.x sw.to.x e.a.x e.b.x h.S h.T h.N) (way_of sw.from.y sw.to.y e.a.y e.b.y h.S h.T h.N) h.hit.close;
        };
      }

-- ---- the tests, as facts on hits

-- a value that is f + (i / o) g = c, at the same moment S / N
pub at_moment : (o i S N f g c : ℤ) → pos 1 ≤ℤ o → o *ℤ S ≡ i *ℤ N → o *ℤ f +ℤ i *ℤ g ≡ o *ℤ c → N *ℤ f +ℤ S *ℤ g ≡ N *ℤ c
at_moment o i S N f g c some same is =
    let e = ring (o ∷ i ∷ S ∷ N ∷ f ∷ g ∷ c ∷ []) (V 0 ⊗ (V 3 ⊗ V 4 ⊕ V 2 ⊗ V 5) ⊖ V 0 ⊗ (V 3 ⊗ V 6)) (V 3 ⊗ (V 0 ⊗ V 4 ⊕ V 1 ⊗ V 5 ⊖ V 0 ⊗ V 6) ⊕ (V 0 ⊗ V 2 ⊖ V 1 ⊗ V 3) ⊗ V 5) tt in
    let none = ap₂ (λ y z. N *ℤ y +ℤ z *ℤ g) (let h : o *ℤ f +ℤ i *ℤ g -ℤ o *ℤ c ≡ pos 0 = omega (arith, ints) in h) (let h : o *ℤ S -ℤ i *ℤ N ≡ pos 0 = omega (arith, ints) in h) in
    cancel_same o (N *ℤ f +ℤ S *ℤ g) (N *ℤ c) (omega (arith, ints)) (omega (arith, ints))

-- the way from the edge's point to the tip at an end over c, in one coordinate
pub end_way : (o i S T N f g a b c : ℤ) → pos 1 ≤ℤ o → o *ℤ S ≡ i *ℤ N → o *ℤ c ≡ o *ℤ f +ℤ i *ℤ (g -ℤ f) → away (f -ℤ a) (g -ℤ f) (b -ℤ a) S T N ≡ N *ℤ (c -ℤ a) -ℤ T *ℤ (b -ℤ a)
end_way o i S T N f g a b c some same is =
    let e = ring (o ∷ f ∷ a ∷ c ∷ []) (V 0 ⊗ (V 1 ⊖ V 2)) (V 0 ⊗ V 1 ⊖ V 0 ⊗ V 2) tt in
    let h = ring (o ∷ f ∷ a ∷ c ∷ []) (V 0 ⊗ (V 3 ⊖ V 2)) (V 0 ⊗ V 3 ⊖ V 0 ⊗ V 2) tt in
    ap (λ z. z -ℤ T *ℤ (b -ℤ a)) (at_moment o i S N (f -ℤ a) (g -ℤ f) (c -ℤ a) some same (omega (arith, ints)))

module _ (cone : Cone) (sw : Sweep) (e : Seg) where
  -- no hit at an end of the part
  off_end : (k : ℤ) (c : End) → pos 1 ≤ℤ sw.part.over → IsAt sw k c ⊎ IsFlat sw k c → IsEdgeClear cone c.p c.z e
      → (S T N : ℤ) → IsPlaceIn sw.part S T N → sw.part.over *ℤ S ≡ k *ℤ N → ¬ IsHit (pass_of cone sw e) S T N
  off_end k c some end clear S T N place same hit =
      elim end [
        | inl here ↦
            end_clear cone c.p c.z e clear T N _ _ _ place.a place.b place.some
            (end_way sw.part.over k S T N sw.from.x sw.to.x e.a.x e.b.x c.p.x some same here.across)
            (end_way sw.part.over k S T N sw.from.y sw.to.y e.a.y e.b.y c.p.y some same here.up)
            (at_moment sw.part.over k S N sw.z sw.descent (pos c.z) some same here.depth) hit
        | inr flat ↦
            (let level = flat.level in
            let none = at_moment sw.part.over k S N sw.z sw.descent (pos 0) some same (omega (arith, ints)) in
            let below = hit.below in
            absurd (omega (arith, ints)))
      ]

  -- no hit at an end v of the edge
  off_corner : (v : GridPoint) → IsPart sw.part → IsNotNegativeIn sw.part (sweep_margin cone sw v) → (S T N : ℤ) → IsPlaceIn sw.part S T N
      → away (sw.from.x -ℤ e.a.x) (sw.to.x -ℤ sw.from.x) (e.b.x -ℤ e.a.x) S T N ≡ N *ℤ (sw.from.x -ℤ v.x) +ℤ S *ℤ (sw.to.x -ℤ sw.from.x)
      → away (sw.from.y -ℤ e.a.y) (sw.to.y -ℤ sw.from.y) (e.b.y -ℤ e.a.y) S T N ≡ N *ℤ (sw.from.y -ℤ v.y) +ℤ S *ℤ (sw.to.y -ℤ sw.from.y)
      → ¬ IsHit (pass_of cone sw e) S T N
  off_corner v part clear S T N place ex ey =
      corner_off (square (pos cone.sd)) (square (pos cone.sn)) (sw.from.x -ℤ v.x) (sw.from.y -ℤ v.y) (sw.to.x -ℤ sw.from.x) (sw.to.y -ℤ sw.from.y) sw.z sw.descent S N _ _
      (not_negative sw.part (sweep_margin cone sw v) S N part place.moment place.some clear) ex ey

  guarded : (first last : End) → IsSweep sw first last → PassesSweep cone sw first last e → IsGuardedIn sw.part (pass_of cone sw e)
  guarded first last is passes S T N place border =
      let f = sw.from in
      let g = sw.to in
      let a = e.a in
      let b = e.b in
      let some = is.part.some in
      elim border [
        | inl h ↦ off_end sw.part.first first some is.start passes.start S T N place (omega (arith, ints))
        | inr others ↦
            elim others [
              | inl h ↦ off_end sw.part.last last some is.finish passes.finish S T N place (omega (arith, ints))
              | inr edge ↦
                  elim edge [
                    | inl h ↦
                        off_corner a is.part passes.corner_a S T N place
                        (ap (λ t. away (f.x -ℤ a.x) (g.x -ℤ f.x) (b.x -ℤ a.x) S t N) h ∙ at_a f.x g.x a.x b.x S N)
                        (ap (λ t. away (f.y -ℤ a.y) (g.y -ℤ f.y) (b.y -ℤ a.y) S t N) h ∙ at_a f.y g.y a.y b.y S N)
                    | inr h ↦
                        (let far : T ≡ N = omega (arith, ints) in
                        off_corner b is.part passes.corner_b S T N place
                        (ap (λ t. away (f.x -ℤ a.x) (g.x -ℤ f.x) (b.x -ℤ a.x) S t N) far ∙ at_b f.x g.x a.x b.x S N)
                        (ap (λ t. away (f.y -ℤ a.y) (g.y -ℤ f.y) (b.y -ℤ a.y) S t N) far ∙ at_b f.y g.y a.y b.y S N))
                  ]
            ]
      ]

  -- path and edge cross just where their lines meet strictly within the part and the edge
  pub crossing_is : IsSweepCrossing sw e ↔ IsCrossingIn sw.part (pass_of cone sw e)
  crossing_is =
      let p : Pass = pass_of cone sw e in
      let u = sw.part in
      let n = V 4 ⊗ V 1 ⊖ V 5 ⊗ V 0 in
      let s = V 0 ⊗ V 3 ⊖ V 1 ⊗ V 2 in
      let path = ring (p.dx ∷ p.dy ∷ p.ex ∷ p.ey ∷ p.qx ∷ p.qy ∷ u.first ∷ u.last ∷ u.over ∷ [])
      ((V 0 ⊗ (V 8 ⊗ V 3 ⊕ V 6 ⊗ V 5) ⊖ V 1 ⊗ (V 8 ⊗ V 2 ⊕ V 6 ⊗ V 4)) ⊗ (V 0 ⊗ (V 8 ⊗ V 3 ⊕ V 7 ⊗ V 5) ⊖ V 1 ⊗ (V 8 ⊗ V 2 ⊕ V 7 ⊗ V 4)))
      (M ((V 8 ⊗ s ⊖ V 6 ⊗ n) ⊗ (V 7 ⊗ n ⊖ V 8 ⊗ s))) tt in
      let edge = edge_parted sw.from.x sw.from.y sw.to.x sw.to.y e.a.x e.a.y e.b.x e.b.y in (
        (λ crossing. let k = crossing.path in let l = crossing.edge in record { path = omega (arith, ints); edge = omega (arith, ints) }),
        (λ strictly. let k = strictly.path in let l = strictly.edge in record { path = omega (arith, ints); edge = omega (arith, ints) }),
      )

pub touches_none : SweepLaw
touches_none cone sw first last e is passes touched =
    let h = hit_of_touched cone sw e touched in
    no_hit_in sw.part (pass_of cone sw e) is.part (guarded cone sw e first last is passes) (square_nonneg (pos cone.sd)) (square_nonneg (pos cone.sn))
    (λ crossing. passes.apart ((crossing_is cone sw e).1 crossing)) h.S h.T h.N h.place h.hit
