-- When the bit's disc holds no point of an edge, by distances; and that a lesser disc is clear with a greater one.
use Rattle.std.proofs.Common.{◌≡◌, ◌≢◌, ℕ, ◌*◌, ◌≤◌, pos, ◌-ℤ◌, ◌*ℤ◌, ◌<ℤ◌, ◌≤ℤ◌, arith, List, ap, subst, ◌∙◌, inl, inr, ◌↔◌}
use Rattle.std.specs.Prelude.{All}
use Rattle.std.proofs.lemmas.Int.{ints, by_lt_z}
use Rattle.std.proofs.Math.Nat.{mul-le-mul_left}
use Rattle.std.proofs.Math.IntN.{*ℤ_comm}
use Rattle.std.proofs.lemmas.Bool.Decides.{eqb_tells}
use Rattle.integer_algebra.proofs.Order.{square_le, square_nonneg, times_le, times_nonneg, zero_times}
use Rattle.plane_exact.specs.Plane.{GridPoint, RationalPoint, IsBetween, rational}
use Rattle.plane_exact.specs.Cone.{Cone}
use Rattle.plane_exact.specs.Distance.{square, scaled_distance, IsAtLeastApart, IsCloser}
use Rattle.plane_exact.specs.declared.point.Seg.{Seg}
use Rattle.engrave_model.specs.Depth.{IsInDisc, IsEdgeClear, IsDiscClear}
use Rattle.engrave_model.proofs.Outline.{each_of_outline, outline_of_each}

pub distance_nonneg : (v w : RationalPoint) → pos 0 ≤ℤ scaled_distance v w
distance_nonneg v w =
    let across = square_nonneg (w.x *ℤ v.over -ℤ v.x *ℤ w.over) in
    let up = square_nonneg (w.y *ℤ v.over -ℤ v.y *ℤ w.over) in
    omega (arith, ints)

module _ (cone : Cone) (z : ℕ) (v w : RationalPoint) where
  -- as far away as the radius is not in the open disc
  pub apart_outside : IsAtLeastApart (pos (cone.sn * z)) (pos cone.sd) v w → ¬ IsInDisc cone v (pos z) (pos 1) w
  apart_outside apart inside =
      let once : cone.sd * 1 ≡ cone.sd = omega arith in
      let close = subst
      (λ (sd : ℕ). (scaled_distance v w *ℤ square (pos sd)) <ℤ (square (pos (cone.sn * z)) *ℤ square (v.over *ℤ w.over)))
      once inside.close in
      omega (arith, ints)

  -- a disc of depth 0 has no point
  nothing_closer : z ≡ 0 → ¬ IsCloser (pos (cone.sn * z)) (pos cone.sd) v w
  nothing_closer none close =
      let zero : cone.sn * z ≡ 0 = ap (λ k. cone.sn * k) none ∙ omega arith in
      let closer = subst
      (λ (r : ℕ). (scaled_distance v w *ℤ square (pos cone.sd)) <ℤ (square (pos r) *ℤ square (v.over *ℤ w.over)))
      zero close in
      let nothing = zero_times (square (v.over *ℤ w.over)) in
      let some = times_nonneg (scaled_distance v w) (square (pos cone.sd)) (distance_nonneg v w) (square_nonneg (pos cone.sd)) in
      omega (arith, ints)

  -- not in the open disc is as far away as the radius
  pub outside_apart : ¬ IsInDisc cone v (pos z) (pos 1) w → IsAtLeastApart (pos (cone.sn * z)) (pos cone.sd) v w
  outside_apart outside =
      by_lt_z (scaled_distance v w *ℤ square (pos cone.sd)) (square (pos (cone.sn * z)) *ℤ square (v.over *ℤ w.over))
      (λ close. elim (eqb_tells z 0) [
        | inl none ↦ absurd (nothing_closer none.1 close)
        | inr some ↦
            (let once : cone.sd ≡ cone.sd * 1 = omega arith in
            let closer = subst
            (λ (sd : ℕ). (scaled_distance v w *ℤ square (pos sd)) <ℤ (square (pos (cone.sn * z)) *ℤ square (v.over *ℤ w.over)))
            once close in
            let deep : pos 0 <ℤ pos z = let positive : z ≢ 0 = some.1 in omega (arith, ints) in
            absurd (outside (record { deep = deep; close = closer })))
      ])
      (λ apart. apart)

module _ (edges : List Seg) (cone : Cone) (p : GridPoint) (z : ℕ) where
  pub clear_of_each : All (IsEdgeClear cone p z) edges → IsDiscClear edges cone p z
  unfolding IsDiscClear IsEdgeClear
  clear_of_each = outline_of_each (λ w. ¬ IsInDisc cone (rational p) (pos z) (pos 1) w) edges

  pub each_of_clear : IsDiscClear edges cone p z → All (IsEdgeClear cone p z) edges
  unfolding IsDiscClear IsEdgeClear
  each_of_clear = each_of_outline (λ w. ¬ IsInDisc cone (rational p) (pos z) (pos 1) w) edges

-- the test of a distance, at the bit's own numbers, says whether the edge is clear
pub edge_clear : (Yes : Type 0) (cone : Cone) (p : GridPoint) (z : ℕ) (e : Seg) (sn sd : ℕ) → sn ≡ cone.sn → sd ≡ cone.sd
    → Yes ↔ ((w : RationalPoint) → IsBetween e.a e.b w → IsAtLeastApart (pos (sn * z)) (pos sd) (rational p) w)
    → Yes ↔ IsEdgeClear cone p z e
unfolding IsEdgeClear
edge_clear Yes cone p z e sn sd sn_is sd_is test =
    let Apart : ℕ → ℕ → Type 0 =
    λ sn sd. (w : RationalPoint) → IsBetween e.a e.b w → IsAtLeastApart (pos (sn * z)) (pos sd) (rational p) w in
    let at_sn : Yes ↔ Apart cone.sn sd = subst (λ n. Yes ↔ Apart n sd) sn_is test in
    let at_bit : Yes ↔ Apart cone.sn cone.sd = subst (λ n. Yes ↔ Apart cone.sn n) sd_is at_sn in (
      λ yes w between. apart_outside cone z (rational p) w (at_bit.0 yes w between),
      λ clear. at_bit.1 (λ w between. outside_apart cone z (rational p) w (clear w between)),
    )

-- a lesser depth's disc lies in a greater one's
pub deeper_holds : (cone : Cone) (y z : ℕ) (v w : RationalPoint) → y ≤ z → IsInDisc cone v (pos y) (pos 1) w
    → IsInDisc cone v (pos z) (pos 1) w
deeper_holds cone y z v w below inside =
    let deep = inside.deep in
    let slope : (pos (cone.sn * y)) ≤ℤ (pos (cone.sn * z)) =
    (let product : cone.sn * y ≤ cone.sn * z = mul-le-mul_left cone.sn below in omega (arith, ints)) in
    let wider = square_le (pos (cone.sn * y)) (pos (cone.sn * z)) (let least : pos 0 ≤ℤ pos (cone.sn * y) = omega (arith, ints) in least) slope in
    let farther = times_le (square (v.over *ℤ w.over)) (square (pos (cone.sn * y))) (square (pos (cone.sn * z)))
    (square_nonneg (v.over *ℤ w.over)) wider in
    let at_y = *ℤ_comm (square (v.over *ℤ w.over)) (square (pos (cone.sn * y))) in
    let at_z = *ℤ_comm (square (v.over *ℤ w.over)) (square (pos (cone.sn * z))) in
    let close = inside.close in
    record { deep = omega (arith, ints); close = omega (arith, ints) }

-- where a greater depth's disc is clear, a lesser one's is
pub less_clear : (edges : List Seg) (cone : Cone) (p : GridPoint) (y z : ℕ) → y ≤ z → IsDiscClear edges cone p z → IsDiscClear edges cone p y
unfolding IsDiscClear
less_clear edges cone p y z below clear w on inside = clear w on (deeper_holds cone y z (rational p) w below inside)

-- the depth 0 is clear
pub surface_clear : (edges : List Seg) (cone : Cone) (p : GridPoint) → IsDiscClear edges cone p 0
unfolding IsDiscClear
surface_clear edges cone p w on inside = let deep = inside.deep in absurd (omega (arith, ints))
