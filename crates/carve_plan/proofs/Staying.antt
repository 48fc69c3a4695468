-- A move that stays over one point, between heights that fit there, is clear.
use Rattle.std.proofs.Common.{◌≡◌, ◌≤◌, ◌*◌, ℕ, List, [], ◌∷◌, ℤ, pos, negsuc, ◌+ℤ◌, ◌-ℤ◌, ◌*ℤ◌, ◌≤ℤ◌, ◌<ℤ◌, arith, inl, inr, subst}
use Rattle.std.proofs.lemmas.Int.{ints}
use Rattle.std.proofs.Math.Nat.{mul-le-mul_left}
use Rattle.integer_algebra.proofs.Ring.{ring, V, K, ◌⊕◌, ◌⊖◌, ◌⊗◌}
use Rattle.integer_algebra.proofs.Order.{cancel_lt, mix_nonneg, sign_of_pos, square_le, square_nonneg, times_le, times_nonneg}
use Rattle.plane_exact.specs.Cone.{Cone}
use Rattle.plane_exact.specs.Distance.{square}
use Rattle.plane_exact.specs.Moves.{IsDeep, IsTooDeep, IsTooWide, depth_of}
use Rattle.plane_exact.specs.Nodes.{place_over}
use Rattle.plane_exact.specs.Plane.{GridPoint, RationalPoint, rational}
use Rattle.plane_exact.specs.declared.moves.Move.{Move}
use Rattle.engrave_model.specs.Depth.{Fits, IsClearDepth, IsDiscClear, IsInDisc}
use Rattle.engrave_model.specs.Drawing.{edges_of}
use Rattle.engrave_model.specs.Removal.{IsRemoved, IsSafe, Moment, depth_at}
use Rattle.evenodd_region.proofs.Discs.{way_closer}
use Rattle.evenodd_region.proofs.Rounds.{parity}
use Rattle.depth_rule.proofs.Exact.{safe_is_clear}
use Rattle.swept_move.specs.Clear.{IsClear}

-- from the point at one height to it at another, in grid units
abbrev pub move_over : GridPoint → ℤ → ℤ → Move
move_over p h k = record { from = place_over p h; to = place_over p k }

-- how deep a height in tenths is
pub tenths_deep : (h : ℤ) → depth_of (pos 10 *ℤ h) ≡ 10 * depth_of h
tenths_deep (pos n) = omega (arith, ints)
tenths_deep (negsuc n) = omega (arith, ints)

-- a height is above what is at most so deep
at_most_deep : (h : ℤ) (z : ℕ) → depth_of h ≤ z → pos 0 ≤ℤ (h +ℤ pos z)
at_most_deep (pos n) z shallow = omega (arith, ints)
at_most_deep (negsuc n) z shallow = omega (arith, ints)

module _ (cone : Cone) (p : GridPoint) (z : ℕ) (h k : ℤ) (first : depth_of h ≤ z) (second : depth_of k ≤ z) where
  narrow_end : (t : ℤ) → depth_of t ≤ z → cone.sn * z ≤ cone.sd * cone.rmax → IsTooWide cone (depth_of (pos 10 *ℤ t)) → ⊥
  narrow_end t shallow narrow wide =
      let at : IsTooWide cone (10 * depth_of t) = subst (IsTooWide cone) (tenths_deep t) wide in
      let less : cone.sn * depth_of t ≤ cone.sn * z = mul-le-mul_left cone.sn shallow in
      absurd (omega arith)

  pub never_wide : cone.sn * z ≤ cone.sd * cone.rmax → IsTooDeep cone (move_over p h k) → ⊥
  never_wide narrow (inl wide) = narrow_end h first narrow wide
  never_wide narrow (inr wide) = narrow_end k second narrow wide

  -- at no moment is the tip deeper
  never_deeper : (s : Moment) → depth_at (move_over p h k) s ≤ℤ (pos 10 *ℤ (pos z *ℤ s.n))
  never_deeper s =
      let finish = s.finish in
      let mixed = mix_nonneg (s.n -ℤ s.k) s.k (h +ℤ pos z) (k +ℤ pos z) (omega (arith, ints)) s.start (at_most_deep h z first) (at_most_deep k z second) in
      let plain = ring (s.n ∷ s.k ∷ h ∷ k ∷ pos z ∷ [])
      (((V 0 ⊖ V 1) ⊗ (K (pos 10) ⊗ V 2) ⊕ V 1 ⊗ (K (pos 10) ⊗ V 3)) ⊕ K (pos 10) ⊗ (V 4 ⊗ V 0))
      (K (pos 10) ⊗ ((V 0 ⊖ V 1) ⊗ (V 2 ⊕ V 4) ⊕ V 1 ⊗ (V 3 ⊕ V 4))) tt
      in
      omega (arith, ints)

-- a disc in tenths at a moment, and one in grid units that holds it
same_disc : (sn sd z n k px py wx wy o D : ℤ) → pos 0 ≤ℤ sn → pos 0 ≤ℤ D → D ≤ℤ (pos 10 *ℤ (z *ℤ n))
    → ((square ((pos 10 *ℤ wx) *ℤ n -ℤ ((n -ℤ k) *ℤ (pos 10 *ℤ px) +ℤ k *ℤ (pos 10 *ℤ px)) *ℤ o)
    +ℤ square ((pos 10 *ℤ wy) *ℤ n -ℤ ((n -ℤ k) *ℤ (pos 10 *ℤ py) +ℤ k *ℤ (pos 10 *ℤ py)) *ℤ o)) *ℤ square (sd *ℤ n)) <ℤ (square (sn *ℤ D) *ℤ square (n *ℤ o))
    → ((square (wx *ℤ pos 1 -ℤ px *ℤ o) +ℤ square (wy *ℤ pos 1 -ℤ py *ℤ o)) *ℤ square (sd *ℤ pos 1)) <ℤ (square (sn *ℤ z) *ℤ square (pos 1 *ℤ o))
same_disc sn sd z n k px py wx wy o D slope deep most close =
    let N = square (pos 10 *ℤ (n *ℤ n)) in
    let left = ring (px ∷ py ∷ wx ∷ wy ∷ o ∷ n ∷ k ∷ sd ∷ [])
    (((K (pos 10) ⊗ (V 5 ⊗ V 5)) ⊗ (K (pos 10) ⊗ (V 5 ⊗ V 5)))
    ⊗ (((V 2 ⊗ K (pos 1) ⊖ V 0 ⊗ V 4) ⊗ (V 2 ⊗ K (pos 1) ⊖ V 0 ⊗ V 4) ⊕ (V 3 ⊗ K (pos 1) ⊖ V 1 ⊗ V 4) ⊗ (V 3 ⊗ K (pos 1) ⊖ V 1 ⊗ V 4)) ⊗ ((V 7 ⊗ K (pos 1)) ⊗ (V 7 ⊗ K (pos 1)))))
    ((((K (pos 10) ⊗ V 2) ⊗ V 5 ⊖ ((V 5 ⊖ V 6) ⊗ (K (pos 10) ⊗ V 0) ⊕ V 6 ⊗ (K (pos 10) ⊗ V 0)) ⊗ V 4)
    ⊗ ((K (pos 10) ⊗ V 2) ⊗ V 5 ⊖ ((V 5 ⊖ V 6) ⊗ (K (pos 10) ⊗ V 0) ⊕ V 6 ⊗ (K (pos 10) ⊗ V 0)) ⊗ V 4)
    ⊕ ((K (pos 10) ⊗ V 3) ⊗ V 5 ⊖ ((V 5 ⊖ V 6) ⊗ (K (pos 10) ⊗ V 1) ⊕ V 6 ⊗ (K (pos 10) ⊗ V 1)) ⊗ V 4)
    ⊗ ((K (pos 10) ⊗ V 3) ⊗ V 5 ⊖ ((V 5 ⊖ V 6) ⊗ (K (pos 10) ⊗ V 1) ⊕ V 6 ⊗ (K (pos 10) ⊗ V 1)) ⊗ V 4)) ⊗ ((V 7 ⊗ V 5) ⊗ (V 7 ⊗ V 5))) tt
    in
    let right = ring (sn ∷ z ∷ n ∷ o ∷ [])
    (((K (pos 10) ⊗ (V 2 ⊗ V 2)) ⊗ (K (pos 10) ⊗ (V 2 ⊗ V 2))) ⊗ (((V 0 ⊗ V 1) ⊗ (V 0 ⊗ V 1)) ⊗ ((K (pos 1) ⊗ V 3) ⊗ (K (pos 1) ⊗ V 3))))
    (((V 2 ⊗ V 3) ⊗ (V 2 ⊗ V 3)) ⊗ ((V 0 ⊗ (K (pos 10) ⊗ (V 1 ⊗ V 2))) ⊗ (V 0 ⊗ (K (pos 10) ⊗ (V 1 ⊗ V 2))))) tt
    in
    let turned = ring (square (sn *ℤ D) ∷ square (n *ℤ o) ∷ []) (V 0 ⊗ V 1) (V 1 ⊗ V 0) tt in
    let grown = times_le (square (n *ℤ o)) (square (sn *ℤ D)) (square (sn *ℤ (pos 10 *ℤ (z *ℤ n)))) (square_nonneg (n *ℤ o))
    (square_le (sn *ℤ D) (sn *ℤ (pos 10 *ℤ (z *ℤ n))) (times_nonneg sn D slope deep) (times_le sn D (pos 10 *ℤ (z *ℤ n)) slope most))
    in
    cancel_lt N _ _ (square_nonneg (pos 10 *ℤ (n *ℤ n))) (omega (arith, ints))

module _ (loops : List (List GridPoint)) (cone : Cone) (limit : ℕ) (p : GridPoint) (z : ℕ) (h k : ℤ) (first : depth_of h ≤ z) (second : depth_of k ≤ z) where
  -- what the move removes lies in the disc of the depth that fits
  in_one_disc : (s : Moment) (w : RationalPoint) → IsRemoved cone (move_over p h k) s w → IsInDisc cone (rational p) (pos z) (pos 1) w
  in_one_disc s w removed =
      let deep = removed.deep in
      let most = never_deeper cone p z h k first second s in
      let some = s.some in
      let positive : pos 0 <ℤ pos z = sign_of_pos (pos 10 *ℤ s.n) (pos z) (omega (arith, ints))
      (let turned = ring (pos z ∷ s.n ∷ []) (K (pos 10) ⊗ (V 0 ⊗ V 1)) ((K (pos 10) ⊗ V 1) ⊗ V 0) tt in omega (arith, ints))
      in
      record {
        deep = positive;
        close = same_disc (pos cone.sn) (pos cone.sd) (pos z) s.n s.k p.x p.y w.x w.y w.over (depth_at (move_over p h k) s) (omega (arith, ints)) (omega (arith, ints)) most removed.close;
      }

  -- and the points of that disc are inside
  stays_inside : IsClearDepth (edges_of loops) cone limit p z → IsSafe (edges_of loops) cone (move_over p h k)
  unfolding IsDiscClear
  stays_inside clear s w removed =
      let disc = in_one_disc s w removed in
      (parity loops (rational p) w
      (λ u on outline. clear.clear u outline (record { deep = disc.deep; close = way_closer (pos cone.sn *ℤ pos z) (pos cone.sd *ℤ pos 1) (rational p) w u on disc.close }))).0 clear.inside

  never_below : z ≡ 0 → IsDeep (move_over p h k) → ⊥
  never_below none (inl deep) = let at = tenths_deep h in absurd (omega arith)
  never_below none (inr deep) = let at = tenths_deep k in absurd (omega arith)

  pub clear_in_place : 1 ≤ cone.sn → Fits (edges_of loops) cone limit p z → IsClear (edges_of loops) cone (move_over p h k)
  clear_in_place some (inl none) = inl (never_below none)
  clear_in_place some (inr clear) = safe_is_clear (edges_of loops) cone (move_over p h k) some (never_wide cone p z h k first second clear.narrow) (stays_inside clear)
