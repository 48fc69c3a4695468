-- The points of a row that are over the floor, point by point, of those that are inside.
use Rattle.std.specs.Prelude.{◌↔◌}
use Rattle.std.proofs.Common.{◌≢◌, ℕ, ◌+◌, ◌<◌, ◌≤◌, List, ℤ, inl, inr, arith, subst, sym}
use Rattle.std.proofs.lemmas.Bool.{cases_eq}
use Rattle.plane_exact.specs.Cone.{Cone}
use Rattle.plane_exact.specs.Plane.{GridPoint}
use Rattle.evenodd_region.specs.RowBits.{IsSetIn, point_of_row}
use Rattle.coverage_report.specs.Marked.{IsRowMarked}
use Rattle.coverage_report.specs.Points.{IsDrawn}
use Rattle.flat_bit.specs.Left.{IsFloorPoint}

module _ (loops : List (List GridPoint)) (cone : Cone) (limit : ℕ) where
  -- a point over the floor is inside
  floor_inside : (p : GridPoint) → IsFloorPoint loops cone limit p → IsDrawn loops p
  floor_inside p floor =
      let deep = floor.deep in
      elim floor.greatest.fits [ inl none ↦ absurd (omega arith) | inr fits ↦ fits.inside ]

  module _ (y x0 : ℤ) (pitch count : ℕ) where
    abbrev IsFloor : ℕ → Type 0
    IsFloor j = IsFloorPoint loops cone limit (point_of_row y x0 pitch j)

    -- the bits that are 1 are those of the points inside, before the point i of those over the floor alone
    abbrev pub AreSoFar : (i : ℕ) → List ℕ → Type 0
    AreSoFar i words = (j : ℕ) → IsSetIn words j ↔ ((j < count) × IsDrawn loops (point_of_row y x0 pitch j) × (j < i → IsFloorPoint loops cone limit (point_of_row y x0 pitch j)))

    module _ (i : ℕ) (words : List ℕ) (are : AreSoFar i words) where
      pub kept : (IsSetIn words i → IsFloorPoint loops cone limit (point_of_row y x0 pitch i)) → AreSoFar (i + 1) words
      kept here j = (
        (λ set.
            let were = (are j).0 set in
            (were.0, were.1, λ below. elim (cases_eq j i) [ inl same ↦ subst IsFloor (sym same) (here (subst (IsSetIn words) same set)) | inr other ↦ were.2 (omega arith) ])),
        (λ all. (are j).1 (all.0, all.1, λ below. all.2 (omega arith))),
      )

      pub left_out : (new : List ℕ) → ¬ IsFloorPoint loops cone limit (point_of_row y x0 pitch i) → ((j : ℕ) → IsSetIn new j ↔ (IsSetIn words j × (j ≢ i))) → AreSoFar (i + 1) new
      left_out new high cleared j = (
        (λ set.
            let both = (cleared j).0 set in
            let were = (are j).0 both.0 in
            let other = both.1 in
            (were.0, were.1, λ below. were.2 (omega arith))),
        (λ all. (cleared j).1 ((are j).1 (all.0, all.1, λ below. all.2 (omega arith)), λ same. high (subst IsFloor same (all.2 (omega arith))))),
      )

      pub row_marked : count ≤ i → IsRowMarked (IsFloorPoint loops cone limit) y x0 pitch count words
      row_marked end = record {
        marked = λ j. (
          (λ set. let were = (are j).0 set in let below = were.0 in (below, were.2 (omega arith))),
          (λ both. (are j).1 (both.0, floor_inside (point_of_row y x0 pitch j) both.1, λ below. both.1)),
        );
      }
