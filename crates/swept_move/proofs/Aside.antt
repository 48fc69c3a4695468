-- The quick test: a motion that stays so far from an edge as the bit reaches has no hit and no crossing, so it passes the tests.
use Rattle.std.proofs.Common.{◌≡◌, ◌⊎◌, inl, inr, ℕ, ◌≤◌, ◌*◌, ℤ, pos, ◌+ℤ◌, ◌-ℤ◌, ◌*ℤ◌, ◌≤ℤ◌, neg_ℤ, [], ◌∷◌, arith, ap₂, subst, sym}
use Rattle.std.proofs.lemmas.Int.{ints}
use Rattle.integer_algebra.proofs.Ring.{ring, V, ◌⊕◌, ◌⊖◌, ◌⊗◌}
use Rattle.integer_algebra.proofs.Order.{times_pos, times_le}
use Rattle.plane_exact.specs.Cone.{Cone}
use Rattle.plane_exact.specs.declared.point.Seg.{Seg}
use Rattle.plane_exact.specs.Moves.{depth_of}
use Rattle.swept_move.specs.Beside.{AreBeside}
use Rattle.swept_move.specs.Motion.{BesideLaw, end_at, sweep_between}
use Rattle.swept_move.specs.Sweep.{Sweep, End, IsSweep, IsSweepCrossing, PassesSweep}
use Rattle.swept_move.proofs.Boxes.{IsPlace, far_by, long_way}
use Rattle.swept_move.proofs.Hits.{Pass, away, deep}
use Rattle.swept_move.proofs.Motions.{is_sweep}
use Rattle.swept_move.proofs.Removing.{depth_least}
use Rattle.swept_move.proofs.Staying.{IsPlaceIn}
use Rattle.swept_move.proofs.Sweeps.{HasHit, crossing_is, pass_of, whole_finish, whole_start}
use Rattle.swept_move.proofs.Touching.{crossing_met, hit_or_passes_apart}

-- how far the bit reaches between two depths, of which either may be negative
pub reaches : (sn sd r z descent S N : ℤ) → (sn *ℤ z) ≤ℤ (sd *ℤ r) → (sn *ℤ (z +ℤ descent)) ≤ℤ (sd *ℤ r) → pos 0 ≤ℤ S → S ≤ℤ N → (sn *ℤ deep z descent S N) ≤ℤ (sd *ℤ (N *ℤ r))
reaches sn sd r z descent S N first last start finish =
    let p = times_le (N -ℤ S) (sn *ℤ z) (sd *ℤ r) (omega (arith, ints)) first in
    let q = times_le S (sn *ℤ (z +ℤ descent)) (sd *ℤ r) start last in
    let e = ring (sn ∷ z ∷ descent ∷ S ∷ N ∷ []) (V 0 ⊗ (V 4 ⊗ V 1 ⊕ V 3 ⊗ V 2)) ((V 4 ⊖ V 3) ⊗ (V 0 ⊗ V 1) ⊕ V 3 ⊗ (V 0 ⊗ (V 1 ⊕ V 2))) tt in
    let f = ring (sd ∷ r ∷ S ∷ N ∷ []) (V 0 ⊗ (V 3 ⊗ V 1)) ((V 3 ⊖ V 2) ⊗ (V 0 ⊗ V 1) ⊕ V 2 ⊗ (V 0 ⊗ V 1)) tt in
    omega (arith, ints)

module _ (cone : Cone) (sw : Sweep) (first last : End) (e : Seg) (r : ℤ) (is : IsSweep sw first last) (some : pos 1 ≤ℤ r)
    (narrow : (pos cone.sn *ℤ sw.z) ≤ℤ (pos cone.sd *ℤ r)) (narrow' : (pos cone.sn *ℤ (sw.z +ℤ sw.descent)) ≤ℤ (pos cone.sd *ℤ r))
    (beside : AreBeside r sw.from.x sw.to.x e.a.x e.b.x ⊎ AreBeside r sw.from.y sw.to.y e.a.y e.b.y) where
  abbrev p : Pass
  p = pass_of cone sw e

  whole : (S T N : ℤ) → IsPlaceIn sw.part S T N → IsPlace S T N
  whole S T N place = record {
    start = whole_start sw.part S N is.part.some is.least place.moment place.some;
    finish = whole_finish sw.part S N is.part.some is.most place.moment place.some;
    a = place.a;
    b = place.b;
    some = place.some;
  }

  -- no way from the edge to the path is shorter than r
  long : (S T N : ℤ) → IsPlaceIn sw.part S T N → (
      let x = away p.ex p.qx p.dx S T N in
      let y = away p.ey p.qy p.dy S T N in
      ((N *ℤ r) *ℤ (N *ℤ r)) ≤ℤ (x *ℤ x +ℤ y *ℤ y))
  long S T N place =
      elim beside [
        | inl across ↦ long_way r sw.from.x sw.to.x e.a.x e.b.x (omega (arith, ints)) across S T N (away p.ey p.qy p.dy S T N) (whole S T N place)
        | inr up ↦
            (let far = long_way r sw.from.y sw.to.y e.a.y e.b.y (omega (arith, ints)) up S T N (away p.ex p.qx p.dx S T N) (whole S T N place) in
            omega (arith, ints))
      ]

  no_hit : ¬ HasHit sw.part p
  no_hit h =
      let place = whole h.S h.T h.N h.place in
      let below = h.hit.below in
      let close = h.hit.close in
      let far = far_by (pos cone.sn) (pos cone.sd) (h.N *ℤ r) (away p.ex p.qx p.dx h.S h.T h.N) (away p.ey p.qy p.dy h.S h.T h.N) (deep p.z p.descent h.S h.N)
      (let l : pos 0 ≤ℤ pos cone.sn = omega (arith, ints) in l) (let l : pos 0 ≤ℤ deep p.z p.descent h.S h.N = omega (arith, ints) in l)
      (reaches (pos cone.sn) (pos cone.sd) r p.z p.descent h.S h.N narrow narrow' place.start place.finish) (long h.S h.T h.N h.place) in
      omega (arith, ints)

  no_crossing : ¬ IsSweepCrossing sw e
  no_crossing crossing =
      let met = crossing_met sw.part p is.part ((crossing_is cone sw e).0 crossing) in
      let over = met.place.some in
      let wide = times_pos met.N r (omega (arith, ints)) (omega (arith, ints)) in
      let square_wide = times_pos (met.N *ℤ r) (met.N *ℤ r) wide wide in
      let far = long met.S met.T met.N met.place in
      let none = ap₂ (λ x y. x *ℤ x +ℤ y *ℤ y) met.across met.up in
      omega (arith, ints)

  pub beside_passes : PassesSweep cone sw first last e
  beside_passes = elim (hit_or_passes_apart cone sw first last e is) [ inl hit ↦ absurd (no_hit hit) | inr passes ↦ passes no_crossing ]

-- the depth of a height is at least the height below the surface
pub reach_least : (sn sd r : ℕ) (h : ℤ) → sn * depth_of h ≤ sd * r → (pos sn *ℤ neg_ℤ h) ≤ℤ (pos sd *ℤ pos r)
reach_least sn sd r h narrow =
    let p = times_le (pos sn) (neg_ℤ h) (pos (depth_of h)) (omega (arith, ints)) (depth_least h) in
    omega (arith, ints)

pub beside_is_clear : BesideLaw
beside_is_clear cone r p q e some deep narrow narrow' beside =
    let last = reach_least cone.sn cone.sd r q.h narrow' in
    let same : neg_ℤ p.h +ℤ (p.h -ℤ q.h) ≡ neg_ℤ q.h = omega (arith, ints) in
    beside_passes cone (sweep_between p q) (end_at p) (end_at q) e (pos r) (is_sweep p q deep) (omega (arith, ints))
    (reach_least cone.sn cone.sd r p.h narrow) (subst (λ z. (pos cone.sn *ℤ z) ≤ℤ (pos cone.sd *ℤ pos r)) (sym same) last) beside
