-- What a walk along a line may skip: places that aren't good, by how shallow one of them is or how far outside, and good ones, by how
-- far an edge is.
use Rattle.std.proofs.Common.{◌≡◌, inl, inr, ℕ, zero, suc, ◌+◌, ◌*◌, ◌≤◌, ◌<◌, List, [], ◌∷◌, ℤ, pos, negsuc, neg_ℤ, ◌+ℤ◌, ◌-ℤ◌, ◌*ℤ◌, ◌≤ℤ◌, ◌<ℤ◌, arith, refl, ap, subst, ◌∙◌}
use Rattle.std.proofs.lemmas.Int.{ints}
use Rattle.std.proofs.Math.Nat.{lt_of_mul-lt-mul_left, mul-le-mul_left, mul-pos}
use Rattle.plane_exact.specs.declared.point.Seg.{Seg}
use Rattle.integer_algebra.proofs.Order.{cancel_lt, times_le, times_nonneg, times_pos}
use Rattle.integer_algebra.proofs.Ring.{ring, V, K, M, ◌⊕◌, ◌⊖◌, ◌⊗◌}
use Rattle.plane_exact.specs.Cone.{Cone}
use Rattle.plane_exact.specs.Distance.{IsCloser, square}
use Rattle.plane_exact.specs.Moves.{IsTooDeep, depth_of}
use Rattle.plane_exact.specs.Plane.{GridPoint, RationalPoint, rational}
use Rattle.plane_exact.specs.declared.moves.Move.{Move}
use Rattle.engrave_model.specs.Depth.{IsClearDepth, IsDiscClear, IsGreatestDepth, IsInDisc}
use Rattle.engrave_model.specs.Drawing.{edges_of}
use Rattle.engrave_model.specs.Inside.{IsInside}
use Rattle.engrave_model.specs.Removal.{IsRemoved, Moment, depth_at, place_at}
use Rattle.swept_move.specs.Clear.{IsClear}
use Rattle.swept_move.specs.Clear.{tenfold as tenfold_point}
use Rattle.engrave_model.specs.Removal.{tenfold as tenfold_place}
use Rattle.depth_rule.specs.Along.{move_between}
use Rattle.depth_rule.specs.Clearance.{IsClearance}
use Rattle.depth_rule.specs.Deepest.{deepest_of}
use Rattle.depth_rule.proofs.DeepestDepths.{deepest_allowed, deepest_greatest, deepest_narrow}
use Rattle.depth_rule.proofs.Exact.{safe_is_clear}
use Rattle.cleanup_pocket.specs.Floors.{IsJoinedBy, node_on, point_on}
use Rattle.cleanup_pocket.specs.Pocket.{IsClearWay, IsGood}
use Rattle.cleanup_pocket.specs.declared.axis.Axis.{Axis}
use Rattle.cleanup_pocket.specs.declared.axis.Axis.TheVariants as axis
use Rattle.cleanup_pocket.proofs.Near.{beside_back, beside_on, near_off, near_same, same_side, up_to, up_to_back}
use Rattle.cleanup_pocket.proofs.Shifted.{IsBeside, IsReaching, closer_beside}

-- ---- numbers

-- the radii of two depths, and a way of n
disc_reaches : (sn sd z deepest n : ℕ) → 1 ≤ sd → sd * n + sn * z ≤ sn * deepest
    → IsReaching (pos sn *ℤ pos z) (pos sd *ℤ pos 1) (pos sn *ℤ pos deepest) (pos sd *ℤ pos 1) (pos n) (pos 1)
disc_reaches sn sd z deepest n some within =
    let reach : (pos sn *ℤ pos z +ℤ pos sd *ℤ pos n) ≤ℤ (pos sn *ℤ pos deepest) = omega (arith, ints) in
    let more = times_le (pos sd) _ _ (omega (arith, ints)) reach in
    let xs = pos sn ∷ pos z ∷ pos sd ∷ pos n ∷ pos deepest ∷ [] in
    let left = ring xs ((V 2 ⊗ K (pos 1)) ⊗ ((V 0 ⊗ V 1) ⊗ K (pos 1) ⊕ (V 2 ⊗ K (pos 1)) ⊗ V 3)) (V 2 ⊗ (V 0 ⊗ V 1 ⊕ V 2 ⊗ V 3)) tt in
    let right = ring xs ((V 0 ⊗ V 4) ⊗ ((V 2 ⊗ K (pos 1)) ⊗ K (pos 1))) (V 2 ⊗ (V 0 ⊗ V 4)) tt in
    record {
      num_sign = omega (arith, ints);
      den_sign = omega (arith, ints);
      per_sign = omega (arith, ints);
      m_sign = omega (arith, ints);
      n_sign = omega (arith, ints);
      reach = omega (arith, ints);
    }

-- the radius of a depth and a way of n, and a clearance
clearance_reaches : (sn sd deepest r n : ℕ) → 1 ≤ sd → sd * n + sn * deepest ≤ sd * r
    → IsReaching (pos sn *ℤ pos deepest) (pos sd *ℤ pos 1) (pos r) (pos 1) (pos n) (pos 1)
clearance_reaches sn sd deepest r n some within =
    let reach : (pos sn *ℤ pos deepest +ℤ pos sd *ℤ pos n) ≤ℤ (pos sd *ℤ pos r) = omega (arith, ints) in
    let xs = pos sn ∷ pos deepest ∷ pos sd ∷ pos n ∷ pos r ∷ [] in
    let left = ring xs (K (pos 1) ⊗ ((V 0 ⊗ V 1) ⊗ K (pos 1) ⊕ (V 2 ⊗ K (pos 1)) ⊗ V 3)) (V 0 ⊗ V 1 ⊕ V 2 ⊗ V 3) tt in
    let right = ring xs (V 4 ⊗ ((V 2 ⊗ K (pos 1)) ⊗ K (pos 1))) (V 2 ⊗ V 4) tt in
    record {
      num_sign = omega (arith, ints);
      den_sign = omega (arith, ints);
      per_sign = omega (arith, ints);
      m_sign = omega (arith, ints);
      n_sign = omega (arith, ints);
      reach = omega (arith, ints);
    }

-- the radius at a moment of a move in tenths at one depth and a way of n + 1, and a clearance
moment_reaches : (sn sd deepest r n : ℕ) (N dd : ℤ) → 1 ≤ sd → pos 0 <ℤ N → dd ≡ pos 10 *ℤ (N *ℤ pos deepest) → sd * suc n + sn * deepest ≤ sd * r
    → IsReaching (pos sn *ℤ dd) (pos sd *ℤ N) (pos 10 *ℤ pos r) (pos 1) (pos 10 *ℤ (N *ℤ pos (suc n))) N
moment_reaches sn sd deepest r n N dd some N_some is within =
    let reach : (pos sn *ℤ pos deepest +ℤ pos sd *ℤ pos (suc n)) ≤ℤ (pos sd *ℤ pos r) = omega (arith, ints) in
    let square_some = times_pos N N N_some N_some in
    let more = times_le (N *ℤ N) _ _ (omega (arith, ints)) reach in
    let xs = pos sn ∷ pos deepest ∷ pos sd ∷ pos (suc n) ∷ pos r ∷ N ∷ [] in
    let deep = ap (λ z. pos 1 *ℤ ((pos sn *ℤ z) *ℤ N +ℤ (pos sd *ℤ N) *ℤ (pos 10 *ℤ (N *ℤ pos (suc n))))) is in
    let left = ring xs (K (pos 1) ⊗ ((V 0 ⊗ (K (pos 10) ⊗ (V 5 ⊗ V 1))) ⊗ V 5 ⊕ (V 2 ⊗ V 5) ⊗ (K (pos 10) ⊗ (V 5 ⊗ V 3))))
    (K (pos 10) ⊗ ((V 5 ⊗ V 5) ⊗ (V 0 ⊗ V 1 ⊕ V 2 ⊗ V 3))) tt in
    let right = ring xs ((K (pos 10) ⊗ V 4) ⊗ ((V 2 ⊗ V 5) ⊗ V 5)) (K (pos 10) ⊗ ((V 5 ⊗ V 5) ⊗ (V 2 ⊗ V 4))) tt in
    let depth = times_nonneg N (pos deepest) (omega (arith, ints)) (omega (arith, ints)) in
    let far = times_nonneg N (pos (suc n)) (omega (arith, ints)) (omega (arith, ints)) in
    record {
      num_sign = times_nonneg (pos sn) dd (omega (arith, ints)) (omega (arith, ints));
      den_sign = times_pos (pos sd) N (omega (arith, ints)) N_some;
      per_sign = omega (arith, ints);
      m_sign = omega (arith, ints);
      n_sign = N_some;
      reach = omega (arith, ints);
    }

-- a tenth of a distance
undo_tenfold : (r o a b x y : ℤ)
    → ((square ((pos 10 *ℤ a) *ℤ pos 1 -ℤ (pos 10 *ℤ x) *ℤ o) +ℤ square ((pos 10 *ℤ b) *ℤ pos 1 -ℤ (pos 10 *ℤ y) *ℤ o)) *ℤ square (pos 1)) <ℤ (square (pos 10 *ℤ r) *ℤ square (pos 1 *ℤ o))
    → ((square (a *ℤ pos 1 -ℤ x *ℤ o) +ℤ square (b *ℤ pos 1 -ℤ y *ℤ o)) *ℤ square (pos 1)) <ℤ (square r *ℤ square (pos 1 *ℤ o))
undo_tenfold r o a b x y close =
    let dx = (K (pos 10) ⊗ V 2) ⊗ K (pos 1) ⊖ (K (pos 10) ⊗ V 4) ⊗ V 1 in
    let dy = (K (pos 10) ⊗ V 3) ⊗ K (pos 1) ⊖ (K (pos 10) ⊗ V 5) ⊗ V 1 in
    let ex = V 2 ⊗ K (pos 1) ⊖ V 4 ⊗ V 1 in
    let ey = V 3 ⊗ K (pos 1) ⊖ V 5 ⊗ V 1 in
    let xs = r ∷ o ∷ a ∷ b ∷ x ∷ y ∷ [] in
    let left = ring xs ((dx ⊗ dx ⊕ dy ⊗ dy) ⊗ (K (pos 1) ⊗ K (pos 1))) (K (pos 100) ⊗ ((ex ⊗ ex ⊕ ey ⊗ ey) ⊗ (K (pos 1) ⊗ K (pos 1)))) tt in
    let right = ring xs (((K (pos 10) ⊗ V 0) ⊗ (K (pos 10) ⊗ V 0)) ⊗ ((K (pos 1) ⊗ V 1) ⊗ (K (pos 1) ⊗ V 1)))
    (K (pos 100) ⊗ ((V 0 ⊗ V 0) ⊗ ((K (pos 1) ⊗ V 1) ⊗ (K (pos 1) ⊗ V 1)))) tt in
    cancel_lt (pos 100) _ _ (omega (arith, ints)) (omega (arith, ints))

-- ---- places of a line

-- how far in tenths a moment of the move from the place behind n others is from the first, times the moment's n
abbrev gone : Moment → ℕ → ℤ
gone s n = pos 10 *ℤ (s.n *ℤ pos n +ℤ s.k)

goes : (k N place n : ℤ) → (N -ℤ k) *ℤ (pos 10 *ℤ (place +ℤ n)) +ℤ k *ℤ (pos 10 *ℤ (place +ℤ n +ℤ pos 1)) ≡ N *ℤ (pos 10 *ℤ place) +ℤ pos 10 *ℤ (N *ℤ n +ℤ k)
goes k N place n =
    ring (k ∷ N ∷ place ∷ n ∷ []) ((V 1 ⊖ V 0) ⊗ (K (pos 10) ⊗ (V 2 ⊕ V 3)) ⊕ V 0 ⊗ (K (pos 10) ⊗ (V 2 ⊕ V 3 ⊕ K (pos 1))))
    (V 1 ⊗ (K (pos 10) ⊗ V 2) ⊕ K (pos 10) ⊗ (V 1 ⊗ V 3 ⊕ V 0)) tt

keeps : (k N z : ℤ) → (N -ℤ k) *ℤ z +ℤ k *ℤ z ≡ N *ℤ z
keeps k N z = ring (k ∷ N ∷ z ∷ []) ((V 1 ⊖ V 0) ⊗ V 2 ⊕ V 0 ⊗ V 2) (V 1 ⊗ V 2) tt

-- the move from the place behind n others to the next, at one depth
abbrev step : Axis → (line place : ℤ) → (deepest n : ℕ) → Move
step axis line place deepest n =
    move_between (node_on axis line deepest (place +ℤ pos n)) (node_on axis line deepest (place +ℤ pos n +ℤ pos 1))

beside_step : (axis : Axis) (line place : ℤ) (deepest n : ℕ) (s : Moment)
    → IsBeside (place_at (step axis line place deepest n) s) (tenfold_point (point_on axis line place)) (gone s n)
beside_step axis.X line place deepest n s = inl (goes s.k s.n place (pos n), keeps s.k s.n (pos 10 *ℤ line))
beside_step axis.Y line place deepest n s = inr (keeps s.k s.n (pos 10 *ℤ line), goes s.k s.n place (pos n))

-- its depth in tenths
step_depth : (k N : ℤ) (deepest : ℕ) → neg_ℤ ((N -ℤ k) *ℤ (pos 10 *ℤ neg_ℤ (pos deepest)) +ℤ k *ℤ (pos 10 *ℤ neg_ℤ (pos deepest))) ≡ pos 10 *ℤ (N *ℤ pos deepest)
step_depth k N deepest =
    let h = K (pos 10) ⊗ M (V 2) in
    ring (k ∷ N ∷ pos deepest ∷ []) (M ((V 1 ⊖ V 0) ⊗ h ⊕ V 0 ⊗ h)) (K (pos 10) ⊗ (V 1 ⊗ V 2)) tt

-- ten times a depth
tenths_deep : (n : ℕ) → depth_of (pos 10 *ℤ neg_ℤ (pos n)) ≡ 10 * n
tenths_deep zero = refl
tenths_deep (suc n) =
    let is : pos 10 *ℤ neg_ℤ (pos (suc n)) ≡ negsuc (10 * n + 9) = omega (arith, ints) in
    ap depth_of is ∙ omega arith

-- ---- the rules

module _ (loops : List (List GridPoint)) (cone : Cone) (limit : ℕ) (axis : Axis) (line : ℤ) where
  abbrev edges : List Seg
  edges = edges_of loops

  abbrev deepest : ℕ
  deepest = deepest_of cone limit

  abbrev at : ℤ → GridPoint
  at place = point_on axis line place

  abbrev Good : ℤ → Type 0
  Good place = IsGood edges cone limit axis line place

  module _ (deep : 1 ≤ deepest) where
    -- what is known of a good place
    good_depth : (place : ℤ) → Good place → IsClearDepth edges cone limit (at place) deepest
    good_depth place good = elim good.fits [ inl none ↦ absurd (omega arith) | inr clear ↦ clear ]

    pub good_inside : (place : ℤ) → Good place → IsInside edges (rational (at place))
    good_inside place good = (good_depth place good).inside

    -- where the greatest depth is less than the deepest, the next places are shallow too
    shallow_disc : (place : ℤ) (z n : ℕ) → 1 ≤ cone.sd → cone.sd * n + cone.sn * z ≤ cone.sn * deepest → Good (place +ℤ pos n) → IsDiscClear edges cone (at place) z
    unfolding IsDiscClear
    shallow_disc place z n over reach good w on disc =
        (good_depth (place +ℤ pos n) good).clear w on (record {
          deep = omega (arith, ints);
          close =
              closer_beside (pos cone.sn *ℤ pos z) (pos cone.sd *ℤ pos 1) (pos cone.sn *ℤ pos deepest) (pos cone.sd *ℤ pos 1) (pos n) (neg_ℤ (pos n))
              (rational (at place)) (at (place +ℤ pos n)) w
              (disc_reaches cone.sn cone.sd z deepest n over reach) (up_to_back n) (beside_back axis line place (pos n)) disc.close;
        })

    pub shallow_skip : (place : ℤ) (z n : ℕ) → 1 ≤ cone.sd → IsInside edges (rational (at place)) → IsGreatestDepth edges cone limit (at place) z → z < deepest
        → cone.sd * n + cone.sn * suc z ≤ cone.sn * deepest → ¬ Good (place +ℤ pos n)
    shallow_skip place z n over inside best shallow reach good =
        let narrow = deepest_narrow cone limit in
        let allowed = deepest_allowed cone limit in
        let less : cone.sn * suc z ≤ cone.sn * deepest = mul-le-mul_left cone.sn shallow in
        let more : suc z ≤ z = best.greatest (suc z) (inr (record {
          narrow = omega arith;
          allowed = omega arith;
          inside = inside;
          clear = shallow_disc place (suc z) n over reach good;
        })) in
        omega arith

    module _ (steep : 1 ≤ cone.sn) (over : 1 ≤ cone.sd) (place : ℤ) (r : ℕ) (good : Good place) (clear : IsClearance edges (at place) r) where
      disc_near : (n : ℕ) → cone.sd * n + cone.sn * deepest ≤ cone.sd * r → (w : RationalPoint)
          → IsInDisc cone (rational (at (place +ℤ pos n))) (pos deepest) (pos 1) w → IsCloser (pos r) (pos 1) (rational (at place)) w
      disc_near n reach w disc =
          closer_beside (pos cone.sn *ℤ pos deepest) (pos cone.sd *ℤ pos 1) (pos r) (pos 1) (pos n) (pos n) (rational (at (place +ℤ pos n))) (at place) w
          (clearance_reaches cone.sn cone.sd deepest r n over reach) (up_to n) (beside_on axis line place (pos n)) disc.close

      disc_off : (n : ℕ) → cone.sd * n + cone.sn * deepest ≤ cone.sd * r → IsDiscClear edges cone (at (place +ℤ pos n)) deepest
      unfolding IsDiscClear
      disc_off n reach w on disc = near_off loops (at place) r clear w (disc_near n reach w disc) on

      nearer : (n : ℕ) → cone.sd * n + cone.sn * deepest ≤ cone.sd * r → n < r
      nearer n reach = lt_of_mul-lt-mul_left cone.sd (let some : 1 ≤ cone.sn * deepest = mul-pos steep deep in omega arith)

      -- where the next edge is farther than the bit's radius, the next places are good
      pub wide_good : (n : ℕ) → cone.sd * n + cone.sn * deepest ≤ cone.sd * r → Good (place +ℤ pos n)
      wide_good n reach = record {
        fits = inr (record {
          narrow = deepest_narrow cone limit;
          allowed = deepest_allowed cone limit;
          inside = (same_side loops axis line place r clear n (nearer n reach)).0 (good_inside place good);
          clear = disc_off n reach;
        });
        greatest = λ y fits. elim fits [ inl none ↦ omega arith | inr depth ↦ deepest_greatest cone limit steep y depth.allowed depth.narrow ];
      }

      -- what a moment of the move from there to the place behind removes is nearer than r too
      removed_near : (n : ℕ) → cone.sd * suc n + cone.sn * deepest ≤ cone.sd * r → (s : Moment) (w : RationalPoint)
          → IsRemoved cone (step axis line place deepest n) s w → IsCloser (pos r) (pos 1) (rational (at place)) w
      removed_near n reach s w removed =
          let start = s.start in
          let finish = s.finish in
          let some = s.some in
          let p = at place in
          let whole = ring (s.n ∷ pos n ∷ []) (K (pos 10) ⊗ (V 0 ⊗ V 1 ⊕ V 0)) (K (pos 10) ⊗ (V 0 ⊗ (V 1 ⊕ K (pos 1)))) tt in
          let part = times_nonneg s.n (pos n) (omega (arith, ints)) (omega (arith, ints)) in
          undo_tenfold (pos r) w.over w.x w.y p.x p.y
          (closer_beside (pos cone.sn *ℤ depth_at (step axis line place deepest n) s) (pos cone.sd *ℤ s.n) (pos 10 *ℤ pos r) (pos 1) (pos 10 *ℤ (s.n *ℤ pos (suc n))) (gone s n)
          (place_at (step axis line place deepest n) s) (tenfold_point p) (tenfold_place w)
          (moment_reaches cone.sn cone.sd deepest r n s.n (depth_at (step axis line place deepest n) s) over (omega (arith, ints)) (step_depth s.k s.n deepest) reach)
          (record { low = omega (arith, ints); high = omega (arith, ints) })
          (beside_step axis line place deepest n s) removed.close)

      step_narrow : (n : ℕ) → ¬ IsTooDeep cone (step axis line place deepest n)
      step_narrow n wide =
          let narrow = deepest_narrow cone limit in
          let too_wide : 10 * (cone.sd * cone.rmax) < cone.sn * depth_of (pos 10 *ℤ neg_ℤ (pos deepest)) = elim wide [ inl first ↦ first | inr last ↦ last ] in
          let wider : 10 * (cone.sd * cone.rmax) < cone.sn * (10 * deepest) = subst (λ z. 10 * (cone.sd * cone.rmax) < cone.sn * z) (tenths_deep deepest) too_wide in
          omega arith

      step_clear : (n : ℕ) → cone.sd * suc n + cone.sn * deepest ≤ cone.sd * r → IsClear edges cone (step axis line place deepest n)
      step_clear n reach =
          safe_is_clear edges cone (step axis line place deepest n) steep (step_narrow n)
          (λ s w removed. (near_same loops (at place) r clear w (removed_near n reach s w removed)).0 (good_inside place good))

      -- and joined
      pub wide_joined : (n : ℕ) → cone.sd * suc n + cone.sn * deepest ≤ cone.sd * r → IsJoinedBy (IsGood edges cone limit) (IsClearWay edges cone limit) axis line (place +ℤ pos n)
      wide_joined n reach = record {
        this = wide_good n (omega arith);
        next = subst Good (next_place place n) (wide_good (suc n) reach);
        way = step_clear n reach;
      }
        where
          next_place : (place : ℤ) (n : ℕ) → place +ℤ pos (suc n) ≡ place +ℤ pos n +ℤ pos 1
          next_place place n = omega (arith, ints)
