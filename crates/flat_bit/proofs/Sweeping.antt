-- What a flat bit sweeps with one move at the floor's depth is what a conical bit of the slope 1/1 removes with the same move at the depth of
-- the radius.
use Rattle.std.proofs.Common.{◌≡◌, ◌≤◌, ℕ, ℤ, ◌*◌, pos, neg_ℤ, ◌+ℤ◌, ◌-ℤ◌, ◌*ℤ◌, ◌<ℤ◌, [], ◌∷◌, arith, ap, subst, sym, ◌∙◌}
use Rattle.std.proofs.lemmas.Int.{ints}
use Rattle.integer_algebra.proofs.Ring.{ring, V, K, M, ◌⊕◌, ◌⊖◌, ◌⊗◌}
use Rattle.integer_algebra.proofs.Order.{cancel_lt, times_lt, times_nonneg, times_pos, square_nonneg}
use Rattle.plane_exact.specs.Distance.{IsCloser, scaled_distance, square}
use Rattle.plane_exact.specs.Nodes.{GridNode, node_place, place_over}
use Rattle.plane_exact.specs.Plane.{GridPoint, RationalPoint}
use Rattle.plane_exact.specs.declared.moves.Move.{Move}
use Rattle.engrave_model.specs.Removal.{Moment, Removes, depth_at, place_at, tenfold}
use Rattle.flat_bit.specs.Discs.{at_radius, right_cone}
use Rattle.flat_bit.specs.Left.{Sweeps}

-- ---- discs of one radius, by a depth that is given over a denominator

disc_of_near : (S Q r n D : ℤ) → pos 0 <ℤ n → D ≡ r *ℤ n → (S *ℤ square (pos 1)) <ℤ (square r *ℤ Q) → (S *ℤ square (pos 1 *ℤ n)) <ℤ (square (pos 1 *ℤ D) *ℤ Q)
disc_of_near S Q r n D some is close =
    let grown = times_lt (n *ℤ n) (S *ℤ square (pos 1)) (square r *ℤ Q) (times_pos n n some some) close in
    let left = ring (S ∷ n ∷ []) ((V 1 ⊗ V 1) ⊗ (V 0 ⊗ (K (pos 1) ⊗ K (pos 1)))) (V 0 ⊗ ((K (pos 1) ⊗ V 1) ⊗ (K (pos 1) ⊗ V 1))) tt in
    let right = ring (r ∷ n ∷ Q ∷ []) ((V 1 ⊗ V 1) ⊗ ((V 0 ⊗ V 0) ⊗ V 2)) (((K (pos 1) ⊗ (V 0 ⊗ V 1)) ⊗ (K (pos 1) ⊗ (V 0 ⊗ V 1))) ⊗ V 2) tt in
    subst (λ D. (S *ℤ square (pos 1 *ℤ n)) <ℤ (square (pos 1 *ℤ D) *ℤ Q)) (sym is) (omega (arith, ints))

near_of_disc : (S Q r n D : ℤ) → pos 0 <ℤ n → D ≡ r *ℤ n → (S *ℤ square (pos 1 *ℤ n)) <ℤ (square (pos 1 *ℤ D) *ℤ Q) → (S *ℤ square (pos 1)) <ℤ (square r *ℤ Q)
near_of_disc S Q r n D some is close =
    let there : (S *ℤ square (pos 1 *ℤ n)) <ℤ (square (pos 1 *ℤ (r *ℤ n)) *ℤ Q) = subst (λ D. (S *ℤ square (pos 1 *ℤ n)) <ℤ (square (pos 1 *ℤ D) *ℤ Q)) is close in
    let left = ring (S ∷ n ∷ []) ((V 1 ⊗ V 1) ⊗ (V 0 ⊗ (K (pos 1) ⊗ K (pos 1)))) (V 0 ⊗ ((K (pos 1) ⊗ V 1) ⊗ (K (pos 1) ⊗ V 1))) tt in
    let right = ring (r ∷ n ∷ Q ∷ []) ((V 1 ⊗ V 1) ⊗ ((V 0 ⊗ V 0) ⊗ V 2)) (((K (pos 1) ⊗ (V 0 ⊗ V 1)) ⊗ (K (pos 1) ⊗ (V 0 ⊗ V 1))) ⊗ V 2) tt in
    cancel_lt (n *ℤ n) _ _ (square_nonneg n) (omega (arith, ints))

-- over a place that stays the moment doesn't matter
last_of_staying : (k n o a b w a' b' v r : ℤ) → pos 0 <ℤ n
    → ((square (w *ℤ n -ℤ ((n -ℤ k) *ℤ b +ℤ k *ℤ b) *ℤ o) +ℤ square (v *ℤ n -ℤ ((n -ℤ k) *ℤ b' +ℤ k *ℤ b') *ℤ o)) *ℤ square (pos 1)) <ℤ (square r *ℤ square (n *ℤ o))
    → ((square (w *ℤ pos 1 -ℤ ((pos 1 -ℤ pos 1) *ℤ a +ℤ pos 1 *ℤ b) *ℤ o) +ℤ square (v *ℤ pos 1 -ℤ ((pos 1 -ℤ pos 1) *ℤ a' +ℤ pos 1 *ℤ b') *ℤ o)) *ℤ square (pos 1)) <ℤ (square r *ℤ square (pos 1 *ℤ o))
last_of_staying k n o a b w a' b' v r some close =
    let left = ring (k ∷ n ∷ o ∷ a ∷ b ∷ w ∷ a' ∷ b' ∷ v ∷ [])
    ((V 1 ⊗ V 1) ⊗ (((V 5 ⊗ K (pos 1) ⊖ ((K (pos 1) ⊖ K (pos 1)) ⊗ V 3 ⊕ K (pos 1) ⊗ V 4) ⊗ V 2) ⊗ (V 5 ⊗ K (pos 1) ⊖ ((K (pos 1) ⊖ K (pos 1)) ⊗ V 3 ⊕ K (pos 1) ⊗ V 4) ⊗ V 2)
    ⊕ (V 8 ⊗ K (pos 1) ⊖ ((K (pos 1) ⊖ K (pos 1)) ⊗ V 6 ⊕ K (pos 1) ⊗ V 7) ⊗ V 2) ⊗ (V 8 ⊗ K (pos 1) ⊖ ((K (pos 1) ⊖ K (pos 1)) ⊗ V 6 ⊕ K (pos 1) ⊗ V 7) ⊗ V 2)) ⊗ (K (pos 1) ⊗ K (pos 1))))
    (((V 5 ⊗ V 1 ⊖ ((V 1 ⊖ V 0) ⊗ V 4 ⊕ V 0 ⊗ V 4) ⊗ V 2) ⊗ (V 5 ⊗ V 1 ⊖ ((V 1 ⊖ V 0) ⊗ V 4 ⊕ V 0 ⊗ V 4) ⊗ V 2)
    ⊕ (V 8 ⊗ V 1 ⊖ ((V 1 ⊖ V 0) ⊗ V 7 ⊕ V 0 ⊗ V 7) ⊗ V 2) ⊗ (V 8 ⊗ V 1 ⊖ ((V 1 ⊖ V 0) ⊗ V 7 ⊕ V 0 ⊗ V 7) ⊗ V 2)) ⊗ (K (pos 1) ⊗ K (pos 1))) tt
    in
    let right = ring (n ∷ o ∷ r ∷ []) ((V 0 ⊗ V 0) ⊗ ((V 2 ⊗ V 2) ⊗ ((K (pos 1) ⊗ V 1) ⊗ (K (pos 1) ⊗ V 1)))) ((V 2 ⊗ V 2) ⊗ ((V 0 ⊗ V 1) ⊗ (V 0 ⊗ V 1))) tt in
    cancel_lt (n *ℤ n) _ _ (square_nonneg n) (omega (arith, ints))

-- the height of a move that stays at one
level_height : (k n h : ℤ) → neg_ℤ ((n -ℤ k) *ℤ (pos 10 *ℤ neg_ℤ h) +ℤ k *ℤ (pos 10 *ℤ neg_ℤ h)) ≡ (pos 10 *ℤ h) *ℤ n
level_height k n h = ring (k ∷ n ∷ h ∷ []) (M ((V 1 ⊖ V 0) ⊗ (K (pos 10) ⊗ M (V 2)) ⊕ V 0 ⊗ (K (pos 10) ⊗ M (V 2)))) ((K (pos 10) ⊗ V 2) ⊗ V 1) tt

-- the last moment
abbrev pub finish : Moment
finish = record { k = pos 1; n = pos 1; start = record { le = tt }; finish = record { le = tt }; some = record { le = tt } }

module _ (radius depth : ℕ) (some : 1 ≤ radius) (w : RationalPoint) where
  -- at the moment of a move from above p to above q, whatever their heights, w is nearer to the axis than the radius
  abbrev pub IsClose : (p q : GridPoint) → Moment → Type 0
  IsClose p q s = IsCloser (pos (10 * radius)) (pos 1) (place_at (record { from = place_over p (pos 0); to = place_over q (pos 0) }) s) (tenfold w)

  pub close_at_last : (p q : GridPoint) (s : Moment) → IsClose q q s → IsClose p q finish
  close_at_last p q s close =
      let n_some = s.some in
      last_of_staying s.k s.n w.over (pos 10 *ℤ p.x) (pos 10 *ℤ q.x) (pos 10 *ℤ w.x) (pos 10 *ℤ p.y) (pos 10 *ℤ q.y) (pos 10 *ℤ w.y) (pos (10 * radius)) (omega (arith, ints)) close

  -- ---- the conical bit

  -- from the node to the other, at the depth of the radius
  abbrev pub disc_move : (p q : GridNode) → Move
  disc_move p q = record { from = node_place (at_radius radius p); to = node_place (at_radius radius q) }

  pub removed_of_close : (p q : GridNode) (s : Moment) → IsClose p.at q.at s → Removes right_cone (disc_move p q) w
  removed_of_close p q s close =
      let n_some = s.some in
      let level : depth_at (disc_move p q) s ≡ pos (10 * radius) *ℤ s.n = level_height s.k s.n (pos radius) in
      let deep = times_pos (pos (10 * radius)) s.n (omega (arith, ints)) (omega (arith, ints)) in
      record {
        moment = s;
        removed = record {
          deep = (let d = level in omega (arith, ints));
          close = disc_of_near (scaled_distance (place_at (disc_move p q) s) (tenfold w)) (square (s.n *ℤ w.over)) (pos (10 * radius)) s.n (depth_at (disc_move p q) s) (omega (arith, ints)) level close;
        };
      }

  pub close_of_removed : (p q : GridNode) (removes : Removes right_cone (disc_move p q) w) → IsClose p.at q.at removes.moment
  close_of_removed p q removes =
      let s = removes.moment in
      let n_some = s.some in
      near_of_disc (scaled_distance (place_at (disc_move p q) s) (tenfold w)) (square (s.n *ℤ w.over)) (pos (10 * radius)) s.n (depth_at (disc_move p q) s) (omega (arith, ints))
      (level_height s.k s.n (pos radius)) removes.removed.close

  -- ---- the flat bit

  -- between two nodes at the depth it sweeps what the conical bit removes
  pub swept_along : (p q : GridNode) → p.depth ≡ depth → q.depth ≡ depth → Removes right_cone (disc_move p q) w → Sweeps radius depth w (record { from = node_place p; to = node_place q })
  swept_along p q is_p is_q removes =
      let s = removes.moment in
      let level : neg_ℤ ((s.n -ℤ s.k) *ℤ (pos 10 *ℤ neg_ℤ (pos p.depth)) +ℤ s.k *ℤ (pos 10 *ℤ neg_ℤ (pos q.depth))) ≡ pos (10 * depth) *ℤ s.n =
      subst (λ d. neg_ℤ ((s.n -ℤ s.k) *ℤ (pos 10 *ℤ neg_ℤ (pos p.depth)) +ℤ s.k *ℤ (pos 10 *ℤ neg_ℤ (pos d))) ≡ pos (10 * depth) *ℤ s.n) (sym is_q)
      (subst (λ d. neg_ℤ ((s.n -ℤ s.k) *ℤ (pos 10 *ℤ neg_ℤ (pos d)) +ℤ s.k *ℤ (pos 10 *ℤ neg_ℤ (pos depth))) ≡ pos (10 * depth) *ℤ s.n) (sym is_p) (level_height s.k s.n (pos depth)))
      in
      record { moment = s; swept = record { level = level; close = close_of_removed p q removes } }

  -- and where it goes down, what the conical bit removes that stays there
  pub swept_down : (node : GridNode) (h : ℤ) → node.depth ≡ depth → Removes right_cone (disc_move node node) w
      → Sweeps radius depth w (record { from = place_over node.at h; to = node_place node })
  swept_down node h is removes =
      let level : neg_ℤ ((pos 1 -ℤ pos 1) *ℤ (pos 10 *ℤ h) +ℤ pos 1 *ℤ (pos 10 *ℤ neg_ℤ (pos node.depth))) ≡ pos (10 * depth) *ℤ pos 1 =
      ring (h ∷ pos node.depth ∷ []) (M ((K (pos 1) ⊖ K (pos 1)) ⊗ (K (pos 10) ⊗ V 0) ⊕ K (pos 1) ⊗ (K (pos 10) ⊗ M (V 1)))) ((K (pos 10) ⊗ V 1) ⊗ K (pos 1)) tt
      ∙ ap (λ d. (pos 10 *ℤ pos d) *ℤ pos 1) is
      in
      record { moment = finish; swept = record { level = level; close = close_at_last node.at node.at removes.moment (close_of_removed node node removes) } }

  -- any move from above p to above q sweeps only what the conical bit removes with that move
  pub removed_of_swept : (p q : GridNode) (h k : ℤ) → Sweeps radius depth w (record { from = place_over p.at h; to = place_over q.at k }) → Removes right_cone (disc_move p q) w
  removed_of_swept p q h k sweeps = removed_of_close p q sweeps.moment sweeps.swept.close

  -- and a move above q what the conical bit removes that comes to q
  pub removed_of_upright : (p q : GridNode) (h k : ℤ) → Sweeps radius depth w (record { from = place_over q.at h; to = place_over q.at k }) → Removes right_cone (disc_move p q) w
  removed_of_upright p q h k sweeps = removed_of_close p q finish (close_at_last p.at q.at sweeps.moment sweeps.swept.close)

  -- a move above the surface sweeps nothing
  pub travel_sweeps_none : (p q : GridPoint) (safe : ℕ) → 1 ≤ depth → ¬ Sweeps radius depth w (record { from = place_over p (pos safe); to = place_over q (pos safe) })
  travel_sweeps_none p q safe deep sweeps =
      let s = sweeps.moment in
      let n_some = s.some in
      let level = sweeps.swept.level in
      let high : neg_ℤ ((s.n -ℤ s.k) *ℤ (pos 10 *ℤ pos safe) +ℤ s.k *ℤ (pos 10 *ℤ pos safe)) ≡ neg_ℤ (s.n *ℤ pos (10 * safe)) =
      ring (s.k ∷ s.n ∷ pos safe ∷ []) (M ((V 1 ⊖ V 0) ⊗ (K (pos 10) ⊗ V 2) ⊕ V 0 ⊗ (K (pos 10) ⊗ V 2))) (M (V 1 ⊗ (K (pos 10) ⊗ V 2))) tt
      in
      let up = times_nonneg s.n (pos (10 * safe)) (omega (arith, ints)) (omega (arith, ints)) in
      let down = times_pos (pos (10 * depth)) s.n (omega (arith, ints)) (omega (arith, ints)) in
      absurd (omega (arith, ints))
