-- Where the move to a point at the deepest depth is clear, that depth fits there: at its last moment the move removes what the disc over
-- the point holds, and all that a clear move removes is inside.
use Rattle.std.proofs.Common.{◌≡◌, ◌↔◌, inl, inr, ℕ, ◌≤◌, Bool, List, [], ◌∷◌, ℤ, pos, neg_ℤ, ◌+ℤ◌, ◌-ℤ◌, ◌*ℤ◌, ◌<ℤ◌, IsTrue, arith, refl, ap, subst, sym, ◌∙◌}
use Rattle.std.proofs.lemmas.Int.{ints}
use Rattle.integer_algebra.proofs.Order.{times_lt, times_pos}
use Rattle.integer_algebra.proofs.Ring.{ring, V, K, M, ◌⊕◌, ◌⊖◌, ◌⊗◌}
use Rattle.plane_exact.specs.Cone.{Cone}
use Rattle.plane_exact.specs.Distance.{square}
use Rattle.plane_exact.specs.Plane.{GridPoint, RationalPoint, rational}
use Rattle.plane_exact.specs.declared.moves.Move.{Move}
use Rattle.plane_exact.proofs.Fractions.{last}
use Rattle.engrave_model.specs.Depth.{IsClearDepth, IsDiscClear, IsInDisc}
use Rattle.engrave_model.specs.Drawing.{edges_of}
use Rattle.engrave_model.specs.Removal.{IsRemoved, IsSafe}
use Rattle.evenodd_region.proofs.Discs.{centre_closer}
use Rattle.swept_move.specs.Clear.{IsClear}
use Rattle.depth_rule.specs.Along.{move_between}
use Rattle.depth_rule.specs.Deepest.{deepest_of}
use Rattle.depth_rule.proofs.DeepestDepths.{deepest_allowed, deepest_greatest, deepest_narrow}
use Rattle.depth_rule.proofs.Safety.{clear_is_safe}
use Rattle.cleanup_pocket.specs.Floors.{IsJoinedBy, node_on, point_on}
use Rattle.cleanup_pocket.specs.Pocket.{IsClearWay, IsGood}
use Rattle.cleanup_pocket.specs.declared.axis.Axis.{Axis}

-- the depth at the last moment, in tenths
last_depth : (deepest : ℕ) → neg_ℤ ((pos 1 -ℤ pos 1) *ℤ (pos 10 *ℤ neg_ℤ (pos deepest)) +ℤ pos 1 *ℤ (pos 10 *ℤ neg_ℤ (pos deepest))) ≡ pos 10 *ℤ pos deepest
last_depth deepest =
    let h = K (pos 10) ⊗ M (V 0) in
    ring (pos deepest ∷ []) (M ((K (pos 1) ⊖ K (pos 1)) ⊗ h ⊕ K (pos 1) ⊗ h)) (K (pos 10) ⊗ V 0) tt

-- a distance at the last moment, in tenths
last_close : (sn sd depth o a b x y p q dd : ℤ) → dd ≡ pos 10 *ℤ depth
    → ((square (a *ℤ pos 1 -ℤ x *ℤ o) +ℤ square (b *ℤ pos 1 -ℤ y *ℤ o)) *ℤ square (sd *ℤ pos 1)) <ℤ (square (sn *ℤ depth) *ℤ square (pos 1 *ℤ o))
    → ((square ((pos 10 *ℤ a) *ℤ pos 1 -ℤ ((pos 1 -ℤ pos 1) *ℤ (pos 10 *ℤ p) +ℤ pos 1 *ℤ (pos 10 *ℤ x)) *ℤ o)
    +ℤ square ((pos 10 *ℤ b) *ℤ pos 1 -ℤ ((pos 1 -ℤ pos 1) *ℤ (pos 10 *ℤ q) +ℤ pos 1 *ℤ (pos 10 *ℤ y)) *ℤ o)) *ℤ square (sd *ℤ pos 1))
    <ℤ (square (sn *ℤ dd) *ℤ square (pos 1 *ℤ o))
last_close sn sd depth o a b x y p q dd is close =
    let more = times_lt (pos 100) _ _ (omega (arith, ints)) close in
    let dx = (K (pos 10) ⊗ V 2) ⊗ K (pos 1) ⊖ ((K (pos 1) ⊖ K (pos 1)) ⊗ (K (pos 10) ⊗ V 6) ⊕ K (pos 1) ⊗ (K (pos 10) ⊗ V 4)) ⊗ V 1 in
    let dy = (K (pos 10) ⊗ V 3) ⊗ K (pos 1) ⊖ ((K (pos 1) ⊖ K (pos 1)) ⊗ (K (pos 10) ⊗ V 7) ⊕ K (pos 1) ⊗ (K (pos 10) ⊗ V 5)) ⊗ V 1 in
    let ex = V 2 ⊗ K (pos 1) ⊖ V 4 ⊗ V 1 in
    let ey = V 3 ⊗ K (pos 1) ⊖ V 5 ⊗ V 1 in
    let left = ring (sd ∷ o ∷ a ∷ b ∷ x ∷ y ∷ p ∷ q ∷ [])
    ((dx ⊗ dx ⊕ dy ⊗ dy) ⊗ ((V 0 ⊗ K (pos 1)) ⊗ (V 0 ⊗ K (pos 1)))) (K (pos 100) ⊗ ((ex ⊗ ex ⊕ ey ⊗ ey) ⊗ ((V 0 ⊗ K (pos 1)) ⊗ (V 0 ⊗ K (pos 1))))) tt in
    let deep = ap (λ d. square (sn *ℤ d) *ℤ square (pos 1 *ℤ o)) is in
    let right = ring (sn ∷ depth ∷ o ∷ [])
    (((V 0 ⊗ (K (pos 10) ⊗ V 1)) ⊗ (V 0 ⊗ (K (pos 10) ⊗ V 1))) ⊗ ((K (pos 1) ⊗ V 2) ⊗ (K (pos 1) ⊗ V 2)))
    (K (pos 100) ⊗ (((V 0 ⊗ V 1) ⊗ (V 0 ⊗ V 1)) ⊗ ((K (pos 1) ⊗ V 2) ⊗ (K (pos 1) ⊗ V 2)))) tt in
    omega (arith, ints)

module _ (loops : List (List GridPoint)) (cone : Cone) (limit : ℕ) (deep : 1 ≤ deepest_of cone limit) (steep : 1 ≤ cone.sn) where
  abbrev deepest : ℕ
  deepest = deepest_of cone limit

  -- the move at the deepest depth from the one point to the other
  abbrev move : GridPoint → GridPoint → Move
  move p q = move_between (record { at = p; depth = deepest }) (record { at = q; depth = deepest })

  removed_last : (p q : GridPoint) (w : RationalPoint) → IsInDisc cone (rational q) (pos deepest) (pos 1) w → IsRemoved cone (move p q) last w
  removed_last p q w disc =
      let depth = last_depth deepest in
      record {
        deep = omega (arith, ints);
        close = last_close (pos cone.sn) (pos cone.sd) (pos deepest) w.over w.x w.y q.x q.y p.x p.y _ depth disc.close;
      }

  module _ (p q : GridPoint) (clear : IsClear (edges_of loops) cone (move p q)) where
    safe : IsSafe (edges_of loops) cone (move p q)
    safe = clear_is_safe loops cone (move p q) clear

    ends_clear : IsDiscClear (edges_of loops) cone q deepest
    unfolding IsDiscClear
    ends_clear w on disc = (safe last w (removed_last p q w disc)).off_outline on

    centre : IsInDisc cone (rational q) (pos deepest) (pos 1) (rational q)
    centre = record {
      deep = omega (arith, ints);
      close = centre_closer (pos cone.sn *ℤ pos deepest) (pos cone.sd *ℤ pos 1) (rational q) (rational q)
          (times_pos (pos cone.sn) (pos deepest) (omega (arith, ints)) (omega (arith, ints))) (record { across = refl; up = refl });
    }

    ends_deep : IsClearDepth (edges_of loops) cone limit q deepest
    ends_deep = record {
      narrow = deepest_narrow cone limit;
      allowed = deepest_allowed cone limit;
      inside = safe last (rational q) (removed_last p q (rational q) centre);
      clear = ends_clear;
    }

  -- so a good place is joined to the next exactly where the move there is clear
  pub joined_by : (axis : Axis) (line place : ℤ) (depth : ℕ) (mv : Move) (answer : Bool) → depth ≡ deepest
      → mv ≡ move_between (node_on axis line depth place) (node_on axis line depth (place +ℤ pos 1)) → IsGood (edges_of loops) cone limit axis line place
      → IsTrue answer ↔ IsClear (edges_of loops) cone mv → IsTrue answer ↔ IsJoinedBy (IsGood (edges_of loops) cone limit) (IsClearWay (edges_of loops) cone limit) axis line place
  joined_by axis line place depth mv answer is moves good test =
      let same : mv ≡ move (point_on axis line place) (point_on axis line (place +ℤ pos 1)) =
      moves ∙ ap (λ z. move_between (node_on axis line z place) (node_on axis line z (place +ℤ pos 1))) is in (
        λ true.
            let clear = subst (IsClear (edges_of loops) cone) same (test.0 true) in
            record {
              this = good;
              next = record {
                fits = inr (ends_deep (point_on axis line place) (point_on axis line (place +ℤ pos 1)) clear);
                greatest = λ y fits. elim fits [ inl none ↦ omega arith | inr depth ↦ deepest_greatest cone limit steep y depth.allowed depth.narrow ];
              };
              way = clear;
            },
        λ joined. test.1 (subst (IsClear (edges_of loops) cone) (sym same) joined.way),
      )
