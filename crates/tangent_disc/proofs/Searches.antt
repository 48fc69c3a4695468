-- The search for the greatest free number: over the edges near a disc, and over discs of twice the size.
use Rattle.std.proofs.Common.{◌≡◌, ℕ, ◌<◌, ◌≤◌, false, Some, List, [], ◌∷◌, length, get_or, All, pos, ◌≤ℤ◌, arith, inl, inr, sym, subst}
use Rattle.std.proofs.lemmas.Bool.{cases_lt}
use Rattle.std.specs.List.{slice_get}
use Rattle.std.proofs.lemmas.List.Elements.{All-rest}
use Rattle.std.proofs.lemmas.Option.{get_or_from_slice_get}
use Rattle.plane_exact.specs.declared.point.Seg.{Seg}
use Rattle.lane_kernels.specs.Boxes.{is_met}
use Rattle.lane_kernels.specs.declared.boxes.Rect.{Rect}
use Rattle.segment_grid.specs.Near.{AreNear, box_of}
use Rattle.segment_grid.proofs.NearLaws.{Done, done_end, done_step, near_done, near_there}
use Rattle.tangent_disc.specs.Tangent.{IsFree, IsGreatestFree}
use Rattle.tangent_disc.specs.Touch.{IsFreeOf, IsGreatestFreeOf}
use Rattle.tangent_disc.specs.declared.disc.Side.{Side}
use Rattle.tangent_disc.specs.declared.edge_point.EdgePoint.{EdgePoint}
use Rattle.tangent_disc.proofs.Free.{each_of_free, free_of_each, less_free_is, less_free_of}

module _ (edges : List Seg) (side : Side) (p : EdgePoint) where
  -- the number is free as far as this edge goes
  abbrev pub FreeAt : (j k : ℕ) → Type 0
  FreeAt j k = (d : Seg) → IsFreeOf side p j (get_or edges k d)

  -- of the edges, those with these numbers are still to be asked; j is free as far as the others go, and no number that is free of all
  -- edges is greater
  pub record IsSearched (most j : ℕ) (left : List ℕ) : Type 0 where
    pub there : All (λ k. k < length edges) left
    pub done : Done (FreeAt j) edges left
    pub within : j ≤ most
    pub greatest : (i : ℕ) → i ≤ most → IsFree edges side p i → i ≤ j

  pub begun : (q : Rect) (ns : List ℕ) → AreNear edges q ns → (most : ℕ) → ((e : Seg) → is_met q (box_of e) ≡ false → IsFreeOf side p most e) → IsSearched most most ns
  begun q ns near most free = record {
    there = near_there q edges ns near;
    done = near_done q edges ns near (FreeAt most) (λ k there misses d. free (get_or edges k d) (misses d));
    within = omega arith;
    greatest = λ i below _. below;
  }

  pub inside : (k : ℕ) (all left : List ℕ) → all ≡ k ∷ left → All (λ n. n < length edges) all → k < length edges
  inside k all left is there = subst (λ ns. All (λ n. n < length edges) ns) is there 0 0 (omega arith)

  pub stepped : pos 0 ≤ℤ p.length → (most j next k : ℕ) (e : Seg) (all left : List ℕ) → all ≡ k ∷ left → slice_get edges k ≡ Some e → IsGreatestFreeOf e side p j next
      → IsSearched most j all → IsSearched most next left
  stepped long most j next k e all left is there found searched = record {
    there = All-rest (λ n. n < length edges) k left all is searched.there;
    done = done_step (FreeAt j) (FreeAt next) edges k all left is
        (λ n free d. less_free_of side p long (get_or edges n d) next j found.within (free d))
        (λ d. subst (IsFreeOf side p next) (sym (get_or_from_slice_get edges k e d there)) found.free) searched.done;
    within = let a = found.within in let b = searched.within in omega arith;
    greatest = λ i below free. found.greatest i (searched.greatest i below free)
        (subst (IsFreeOf side p i) (get_or_from_slice_get edges k e e there) (each_of_free edges side p i free k e (inside k all left is searched.there)));
  }

  pub ended : (most j : ℕ) (left : List ℕ) → left ≡ [] → IsSearched most j left → IsGreatestFree edges side p most j
  ended most j left none searched = record {
    free = free_of_each edges side p j (λ k d there. done_end (FreeAt j) edges left none searched.done k there d);
    within = searched.within;
    greatest = searched.greatest;
  }

  -- a number below those that were asked for is the greatest of all
  pub stopped : (most rmax j : ℕ) → pos 0 ≤ℤ p.length → IsGreatestFree edges side p most j → j < most → most ≤ rmax → IsGreatestFree edges side p rmax j
  stopped most rmax j long found less more = record {
    free = found.free;
    within = let w = found.within in omega arith;
    greatest = λ i below free. elim (cases_lt most i) [
      | inl over ↦ let none = found.greatest most (omega arith) (less_free_is edges side p long most i (omega arith) free) in absurd (omega arith)
      | inr under ↦ found.greatest i under free
    ];
  }
