-- The least number of a bad edge, in a loop over the edges near a box in any order.
use Rattle.std.specs.Prelude.{IfSome}
use Rattle.std.proofs.Common.{◌≡◌, ◌⊎◌, inl, inr, ℕ, ◌<◌, ◌≤◌, List, [], ◌∷◌, length, false, Option, None, Some, arith, subst, sym, ⊎_elim}
use Rattle.std.specs.Prelude.{slice_index_or}
use Rattle.plane_exact.specs.declared.point.Seg.{Seg}
use Rattle.lane_kernels.specs.Boxes.{is_met}
use Rattle.lane_kernels.specs.declared.boxes.Rect.{Rect}
use Rattle.segment_grid.specs.Near.{AreNear, box_of}
use Rattle.segment_grid.proofs.NearLaws.{Done, done_end, done_step, near_done}
use Rattle.depth_rule.specs.Least.{AtMost}

-- e is the least number of a bad edge: each lesser one is good
pub record IsLeastBad (Good Bad : ℕ → Type 0) (edges : List Seg) (e : ℕ) : Type 0 where
  pub there : e < length edges
  pub bad : Bad e
  pub before : (k : ℕ) → k < e → Good k

module _ (Good Bad : ℕ → Type 0) (edges : List Seg) where
  -- each edge is good, or not below the least bad one so far, or still to come
  pub record IsLeastSoFar (least : Option ℕ) (left : List ℕ) : Type 0 where
    pub bad : IfSome least (λ e. (e < length edges) × Bad e)
    pub done : Done (λ k. Good k ⊎ AtMost least k) edges left

  pub least_begun : (least : Option ℕ) (q : Rect) (ns all : List ℕ) → IfSome least (λ e. (e < length edges) × Bad e) → AreNear edges q ns → all ≡ ns
      → ((k : ℕ) → ((d : Seg) → is_met q (box_of (slice_index_or edges k d)) ≡ false) → Good k) → IsLeastSoFar least all
  least_begun least q ns all bad near is missed =
      subst (IsLeastSoFar least) (sym is) (record {
        bad = bad;
        done = near_done q edges ns near (λ k. Good k ⊎ AtMost least k) (λ k there miss. inl (missed k miss));
      })

  found_is : (least found : Option ℕ) (e : ℕ) → e < length edges → (found ≡ least) ⊎ ((found ≡ Some e) × Bad e)
      → IfSome least (λ e. (e < length edges) × Bad e) → IfSome found (λ e. (e < length edges) × Bad e)
  found_is least found e there (inl same) bad = subst (λ o. IfSome o (λ e. (e < length edges) × Bad e)) (sym same) bad
  found_is least found e there (inr here) bad = subst (λ o. IfSome o (λ e. (e < length edges) × Bad e)) (sym here.0) (there, here.1)

  pub least_stepped : (least found : Option ℕ) (e : ℕ) (all left : List ℕ) → all ≡ e ∷ left → e < length edges
      → ((k : ℕ) → AtMost least k → AtMost found k) → Good e ⊎ AtMost found e → (found ≡ least) ⊎ ((found ≡ Some e) × Bad e)
      → IsLeastSoFar least all → IsLeastSoFar found left
  least_stepped least found e all left first there keeps judged is far = record {
    bad = found_is least found e there is far.bad;
    done = done_step (λ k. Good k ⊎ AtMost least k) (λ k. Good k ⊎ AtMost found k) edges e all left first
        (λ k. ⊎_elim inl (λ below. inr (keeps k below))) judged far.done;
  }

  -- at the end each edge is good, or not below the least bad one
  pub least_judged : (least : Option ℕ) (left : List ℕ) → left ≡ [] → IsLeastSoFar least left → (k : ℕ) → k < length edges → Good k ⊎ AtMost least k
  least_judged least left none far k there = done_end (λ k. Good k ⊎ AtMost least k) edges left none far.done k there

  pub least_none : (left : List ℕ) → left ≡ [] → IsLeastSoFar None left → (k : ℕ) → k < length edges → Good k
  least_none left none far k there =
      ⊎_elim (λ good. good) (λ never. absurd never) (least_judged None left none far k there)

  pub least_some : (e : ℕ) (left : List ℕ) → left ≡ [] → IsLeastSoFar (Some e) left → IsLeastBad Good Bad edges e
  least_some e left none far =
      let there = far.bad.0 in
      record {
        there = there;
        bad = far.bad.1;
        before = λ k below.
            ⊎_elim (λ good. good) (λ above. let l : e ≤ k = above in absurd (omega arith))
            (least_judged (Some e) left none far k (omega arith));
      }
