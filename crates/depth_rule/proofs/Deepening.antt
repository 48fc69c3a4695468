-- The greatest clear depth, edge by edge and disc by disc.
use Rattle.std.specs.Prelude.{slice_index_or}
use Rattle.std.proofs.Common.{◌≡◌, ◌⊎◌, inl, inr, ℕ, ◌<◌, ◌≤◌, List, [], ◌∷◌, length, false, arith, subst, sym}
use Rattle.std.proofs.lemmas.Bool.{cases_lt}
use Rattle.std.proofs.lemmas.Int.{ints}
use Rattle.plane_exact.specs.Cone.{Cone}
use Rattle.plane_exact.specs.Plane.{GridPoint, rational}
use Rattle.plane_exact.specs.declared.point.Seg.{Seg}
use Rattle.engrave_model.specs.Depth.{IsDiscClear, IsEdgeClear}
use Rattle.engrave_model.proofs.Discs.{clear_of_each, deeper_holds, each_of_clear, less_clear}
use Rattle.lane_kernels.specs.Boxes.{is_met}
use Rattle.lane_kernels.specs.declared.boxes.Rect.{Rect}
use Rattle.segment_grid.specs.Near.{AreNear, box_of}
use Rattle.segment_grid.proofs.NearLaws.{Done, done_end, done_step, near_done}
use Rattle.depth_rule.specs.Greatest.{IsGreatestUpTo}

module _ (cone : Cone) (p : GridPoint) where
  -- ---- one edge

  pub less_edge_clear : (e : Seg) (y z : ℕ) → y ≤ z → IsEdgeClear cone p z e → IsEdgeClear cone p y e
  unfolding IsEdgeClear
  less_edge_clear e y z below clear w on inside = clear w on (deeper_holds cone y z (rational p) w below inside)

  pub surface_edge_clear : (e : Seg) → IsEdgeClear cone p 0 e
  unfolding IsEdgeClear
  surface_edge_clear e w on inside = let deep = inside.deep in absurd (omega (arith, ints))

  -- ---- the edges near a disc, one after another

  module _ (edges : List Seg) where
    -- the edge of this number is clear at the depth
    abbrev pub IsNumberClear : ℕ → ℕ → Type 0
    IsNumberClear z k = (d : Seg) → IsEdgeClear cone p z (slice_index_or edges k d)

    -- of the edges all but those still to come are clear at the depth, and no depth up to most that is clear of all edges is greater
    pub record IsSoFar (most z : ℕ) (left : List ℕ) : Type 0 where
      pub within : z ≤ most
      pub done : Done (IsNumberClear z) edges left
      pub greatest : (y : ℕ) → y ≤ most → IsDiscClear edges cone p y → y ≤ z

    pub begun : (q : Rect) (ns : List ℕ) (most : ℕ) → AreNear edges q ns → ((e : Seg) → is_met q (box_of e) ≡ false → IsEdgeClear cone p most e) → IsSoFar most most ns
    begun q ns most near missed = record {
      within = omega arith;
      done = near_done q edges ns near (IsNumberClear most) (λ k there miss d. missed _ (miss d));
      greatest = λ y within clear. within;
    }

    pub stepped : (most y z k : ℕ) (all left : List ℕ) (e : Seg) → all ≡ k ∷ left → k < length edges → ((d : Seg) → slice_index_or edges k d ≡ e)
        → IsGreatestUpTo (λ z. IsEdgeClear cone p z e) y z → IsSoFar most y all → IsSoFar most z left
    stepped most y z k all left e first there is here far =
        let less = here.within in
        let within = far.within in
        record {
          within = omega arith;
          done = done_step (IsNumberClear y) (IsNumberClear z) edges k all left first
              (λ n clear d. less_edge_clear (slice_index_or edges n d) z y less (clear d))
              (λ d. subst (IsEdgeClear cone p z) (sym (is d)) here.has)
              far.done;
          greatest = λ x within clear.
              here.greatest x (far.greatest x within clear)
              (subst (IsEdgeClear cone p x) (is e) (each_of_clear edges cone p x clear k e there));
        }

    pub ended : (most z : ℕ) (left : List ℕ) → left ≡ [] → IsSoFar most z left → IsGreatestUpTo (IsDiscClear edges cone p) most z
    ended most z left none far = record {
      has = clear_of_each edges cone p z (λ k d there. done_end (IsNumberClear z) edges left none far.done k there d);
      within = far.within;
      greatest = far.greatest;
    }

    -- ---- a disc that isn't clear to its depth, or is the greatest, decides

    pub decided : (asked most z : ℕ) → asked ≤ most → (z < asked) ⊎ (asked ≡ most) → IsGreatestUpTo (IsDiscClear edges cone p) asked z
        → IsGreatestUpTo (IsDiscClear edges cone p) most z
    decided asked most z below stops here =
        let within = here.within in
        record {
          has = here.has;
          within = omega arith;
          greatest = λ y allowed clear.
              elim (cases_lt asked y) [
                | inl more ↦
                    (let all = here.greatest asked (omega arith) (less_clear edges cone p asked y (omega arith) clear) in
                    elim stops [ inl less ↦ absurd (omega arith) | inr is ↦ absurd (omega arith) ])
                | inr less ↦ here.greatest y less clear
              ];
        }
