-- Upright moves: what they remove stands under their lower end, and so a move that ends there removes it too.
use Rattle.std.proofs.Common.{◌≡◌, ◌↔◌, inl, inr, ℕ, zero, suc, ◌*◌, ◌<◌, ◌≤◌, ℤ, pos, negsuc, neg_ℤ, ◌+ℤ◌, ◌-ℤ◌, ◌*ℤ◌, ◌≤ℤ◌, [], ◌∷◌, List, arith, refl}
use Rattle.std.proofs.lemmas.Int.{ints, by_lt_z}
use Rattle.integer_algebra.proofs.Ring.{ring, V, K, ◌⊕◌, ◌⊗◌}
use Rattle.integer_algebra.proofs.Order.{square_nonneg, times_le, times_zero}
use Rattle.plane_exact.specs.Cone.{Cone}
use Rattle.plane_exact.specs.Distance.{square}
use Rattle.plane_exact.specs.Heights.{GridPlace}
use Rattle.plane_exact.specs.Moves.{IsTooWide, depth_of}
use Rattle.plane_exact.specs.Plane.{GridPoint, RationalPoint}
use Rattle.plane_exact.specs.declared.moves.Move.{Move}
use Rattle.plane_exact.specs.declared.point.Seg.{Seg}
use Rattle.engrave_model.specs.Drawing.{edges_of}
use Rattle.engrave_model.specs.Inside.{IsInside}
use Rattle.engrave_model.specs.Removal.{Removes, tenfold}
use Rattle.gcode_text.specs.Visits.{spot_over}
use Rattle.swept_move.specs.Clear.{IsClear}
use Rattle.swept_move.specs.Dip.{move_of}
use Rattle.swept_move.proofs.Cuts.{ReachesAt, removed_is, removes_is, removes_nothing, some_weight}
use Rattle.swept_move.proofs.Hits.{IsNear, near_deeper}
use Rattle.swept_move.proofs.Nappe.{near_same, near_whole}
use Rattle.depth_rule.proofs.Exact.{safe_is_clear}
use Rattle.depth_rule.proofs.Safety.{clear_is_safe}
use Rattle.code_repair.specs.Repair.{CanLand, drop_onto}

-- w is in the disc that the bit cuts at the place
abbrev pub IsUnder : Cone → GridPlace → RationalPoint → Type 0
IsUnder cone p w = IsNear (square (pos cone.sd)) (square (pos cone.sn))
    (w.over *ℤ p.at.x -ℤ pos 10 *ℤ w.x) (w.over *ℤ p.at.y -ℤ pos 10 *ℤ w.y) (w.over *ℤ neg_ℤ p.h)

reaches : (cone : Cone) (f g : GridPlace) (w : RationalPoint) → Removes cone (move_of f g) w ↔ ReachesAt cone f g (tenfold w)
reaches cone f g w =
    let there = removes_is cone f g w in
    let reach = removed_is cone f g (tenfold w) in
    (λ removes. reach.0 (there.0 removes), λ reached. there.1 (reach.1 reached))

-- ---- what is under an end is removed

first_alone : (a b : ℤ) → a ≡ pos 1 *ℤ a +ℤ pos 0 *ℤ b
first_alone a b = ring (a ∷ b ∷ []) (V 0) (K (pos 1) ⊗ V 0 ⊕ K (pos 0) ⊗ V 1) tt

last_alone : (a b : ℤ) → b ≡ pos 0 *ℤ a +ℤ pos 1 *ℤ b
last_alone a b = ring (a ∷ b ∷ []) (V 1) (K (pos 0) ⊗ V 0 ⊕ K (pos 1) ⊗ V 1) tt

pub first_removes : (cone : Cone) (f g : GridPlace) (w : RationalPoint) → IsUnder cone f w → Removes cone (move_of f g) w
first_removes cone f g w near = (reaches cone f g w).1 (record {
  l = pos 1;
  m = pos 0;
  start = omega (arith, ints);
  finish = omega (arith, ints);
  near = near_same _ _ _ _ _ _ _ _
      (first_alone (w.over *ℤ f.at.x -ℤ pos 10 *ℤ w.x) (w.over *ℤ g.at.x -ℤ pos 10 *ℤ w.x)) (first_alone (w.over *ℤ f.at.y -ℤ pos 10 *ℤ w.y) (w.over *ℤ g.at.y -ℤ pos 10 *ℤ w.y)) (first_alone (w.over *ℤ neg_ℤ f.h) (w.over *ℤ neg_ℤ g.h)) near;
})

pub last_removes : (cone : Cone) (f g : GridPlace) (w : RationalPoint) → IsUnder cone g w → Removes cone (move_of f g) w
last_removes cone f g w near = (reaches cone f g w).1 (record {
  l = pos 0;
  m = pos 1;
  start = omega (arith, ints);
  finish = omega (arith, ints);
  near = near_same _ _ _ _ _ _ _ _
      (last_alone (w.over *ℤ f.at.x -ℤ pos 10 *ℤ w.x) (w.over *ℤ g.at.x -ℤ pos 10 *ℤ w.x)) (last_alone (w.over *ℤ f.at.y -ℤ pos 10 *ℤ w.y) (w.over *ℤ g.at.y -ℤ pos 10 *ℤ w.y)) (last_alone (w.over *ℤ neg_ℤ f.h) (w.over *ℤ neg_ℤ g.h)) near;
})

-- ---- what an upright move removes is under a place that is no higher

summed : (l m a : ℤ) → l *ℤ a +ℤ m *ℤ a ≡ (l +ℤ m) *ℤ a
summed l m a = ring (l ∷ m ∷ a ∷ []) (V 0 ⊗ V 2 ⊕ V 1 ⊗ V 2) ((V 0 ⊕ V 1) ⊗ V 2) tt

pub upright_under : (cone : Cone) (at : GridPoint) (h k low : ℤ) (w : RationalPoint) → low ≤ℤ h → low ≤ℤ k
    → Removes cone (move_of (record { at = at; h = h }) (record { at = at; h = k })) w → IsUnder cone (record { at = at; h = low }) w
upright_under cone at h k low w first last removes =
    let reached = (reaches cone (record { at = at; h = h }) (record { at = at; h = k }) w).0 removes in
    let o = w.over in
    let positive = w.positive in
    let l = reached.l in
    let m = reached.m in
    let some = some_weight l m _ _ reached.start reached.finish reached.near.below in
    let upper = times_le o (neg_ℤ h) (neg_ℤ low) (omega (arith, ints)) (omega (arith, ints)) in
    let lower = times_le o (neg_ℤ k) (neg_ℤ low) (omega (arith, ints)) (omega (arith, ints)) in
    let from = times_le l (o *ℤ neg_ℤ h) (o *ℤ neg_ℤ low) reached.start upper in
    let to = times_le m (o *ℤ neg_ℤ k) (o *ℤ neg_ℤ low) reached.finish lower in
    let whole = summed l m (o *ℤ neg_ℤ low) in
    near_whole _ _ (l +ℤ m) _ _ _ (omega (arith, ints))
    (near_deeper _ _ _ _ _ _ (square_nonneg (pos cone.sn)) (omega (arith, ints))
    (near_same _ _ _ _ _ _ _ _ (summed l m _) (summed l m _) refl reached.near))

-- ---- places onto which the bit may be set, and from which it may be lifted

-- the bit isn't too wide there, and all that is under it is inside
pub record IsLandable (edges : List Seg) (cone : Cone) (p : GridPlace) : Type 0 where
  pub narrow : ¬ IsTooWide cone (depth_of p.h)
  pub inside : (w : RationalPoint) → IsUnder cone p w → IsInside edges w

-- where the bit is too wide it is below the surface
wide_deep : (cone : Cone) (z : ℕ) → IsTooWide cone z → 0 < z
wide_deep cone zero wide = absurd (let none : cone.sn * 0 ≡ 0 = omega arith in omega arith)
wide_deep cone (suc z) wide = omega arith

above_narrow : (cone : Cone) (h : ℤ) → pos 0 ≤ℤ h → ¬ IsTooWide cone (depth_of h)
above_narrow cone (pos n) above wide = absurd (let deep = wide_deep cone 0 wide in omega arith)
above_narrow cone (negsuc n) above wide = absurd (omega (arith, ints))

-- nothing is under a place at or above the surface
pub above_nothing : (cone : Cone) (p : GridPlace) (w : RationalPoint) → pos 0 ≤ℤ p.h → ¬ IsUnder cone p w
above_nothing cone p w above under =
    let positive = w.positive in
    let below = under.below in
    let least = times_le w.over (neg_ℤ p.h) (pos 0) (omega (arith, ints)) (omega (arith, ints)) in
    let none = times_zero w.over in
    absurd (omega (arith, ints))

pub above_landable : (edges : List Seg) (cone : Cone) (p : GridPlace) → pos 0 ≤ℤ p.h → IsLandable edges cone p
above_landable edges cone p above = record {
  narrow = above_narrow cone p.h above;
  inside = λ w under. absurd (above_nothing cone p w above under);
}

module _ (loops : List (List GridPoint)) (cone : Cone) (mv : Move) (clear : IsClear (edges_of loops) cone mv) where
  -- from either end of a clear move the bit may be lifted, and set down there
  pub first_landable : IsLandable (edges_of loops) cone mv.from
  first_landable = record {
    narrow = narrow clear;
    inside = λ w under. let removes = first_removes cone mv.from mv.to w under in clear_is_safe loops cone mv clear removes.moment w removes.removed;
  }
    where
      narrow : IsClear (edges_of loops) cone mv → ¬ IsTooWide cone (depth_of mv.from.h)
      narrow (inl shallow) wide = shallow (inl (wide_deep cone _ wide))
      narrow (inr deep) wide = deep.narrow (inl wide)

  pub last_landable : IsLandable (edges_of loops) cone mv.to
  last_landable = record {
    narrow = narrow clear;
    inside = λ w under. let removes = last_removes cone mv.from mv.to w under in clear_is_safe loops cone mv clear removes.moment w removes.removed;
  }
    where
      narrow : IsClear (edges_of loops) cone mv → ¬ IsTooWide cone (depth_of mv.to.h)
      narrow (inl shallow) wide = shallow (inr (wide_deep cone _ wide))
      narrow (inr deep) wide = deep.narrow (inr wide)

module _ (cone : Cone) (safe : ℕ) (p : GridPlace) (w : RationalPoint) where
  -- what the way down removes, and the way up, is under the place
  pub drop_under : Removes cone (move_of (spot_over safe p.at) p) w → IsUnder cone p w
  drop_under removes = by_lt_z (pos (10 * safe)) p.h
      (λ higher. absurd (removes_nothing cone (spot_over safe p.at) p w (omega (arith, ints)) (omega (arith, ints)) removes))
      (λ lower. upright_under cone p.at (pos (10 * safe)) p.h p.h w lower (omega (arith, ints)) removes)

  pub lift_under : Removes cone (move_of p (spot_over safe p.at)) w → IsUnder cone p w
  lift_under removes = by_lt_z (pos (10 * safe)) p.h
      (λ higher. absurd (removes_nothing cone p (spot_over safe p.at) w (omega (arith, ints)) (omega (arith, ints)) removes))
      (λ lower. upright_under cone p.at p.h (pos (10 * safe)) p.h w (omega (arith, ints)) lower removes)

module _ (edges : List Seg) (cone : Cone) (safe : ℕ) (p : GridPlace) (some : 1 ≤ cone.sn) (landable : IsLandable edges cone p) where
  -- both are clear
  pub drop_clear : IsClear edges cone (move_of (spot_over safe p.at) p)
  drop_clear = safe_is_clear edges cone (move_of (spot_over safe p.at) p) some
      (λ wide. elim wide [ inl above ↦ absurd (let deep = wide_deep cone 0 above in omega arith) | inr there ↦ absurd (landable.narrow there) ])
      (λ s w removed. landable.inside w (drop_under cone safe p w (record { moment = s; removed = removed })))

  pub lift_clear : IsClear edges cone (move_of p (spot_over safe p.at))
  lift_clear = safe_is_clear edges cone (move_of p (spot_over safe p.at)) some
      (λ wide. elim wide [ inl there ↦ absurd (landable.narrow there) | inr above ↦ absurd (let deep = wide_deep cone 0 above in omega arith) ])
      (λ s w removed. landable.inside w (lift_under cone safe p w (record { moment = s; removed = removed })))

  pub can_land : CanLand edges cone safe p
  can_land = inr drop_clear

-- where the bit can be set down, it is landable
pub landed : (loops : List (List GridPoint)) (cone : Cone) (safe : ℕ) (p : GridPlace) → CanLand (edges_of loops) cone safe p → IsLandable (edges_of loops) cone p
landed loops cone safe p (inl above) = above_landable (edges_of loops) cone p above
landed loops cone safe p (inr clear) = last_landable loops cone (drop_onto safe p) clear

-- from over one point to over another at the safe height nothing is removed
pub level_clear : (edges : List Seg) (cone : Cone) (safe : ℕ) (p q : GridPoint) → IsClear edges cone (move_of (spot_over safe p) (spot_over safe q))
level_clear edges cone safe p q = inl (λ deep. elim deep [ inl from ↦ absurd (omega arith) | inr to ↦ absurd (omega arith) ])

pub level_nothing : (cone : Cone) (safe : ℕ) (p q : GridPoint) (w : RationalPoint) → ¬ Removes cone (move_of (spot_over safe p) (spot_over safe q)) w
level_nothing cone safe p q w = removes_nothing cone (spot_over safe p) (spot_over safe q) w (omega (arith, ints)) (omega (arith, ints))
