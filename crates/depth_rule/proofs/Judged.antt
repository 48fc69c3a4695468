-- The edges near the parts of a move's way, part by part: each is judged by a test, or removed at no moment of the parts so far.
use Rattle.std.specs.Prelude.{slice_index_or, IfSome}
use Rattle.std.proofs.Common.{◌≡◌, ◌⊎◌, inl, inr, ⊎_elim, ℕ, ◌+◌, ◌<◌, ◌≤◌, true, false, List, [], length, Option, Some, pos, arith, subst, sym, ◌∙◌}
use Rattle.std.proofs.lemmas.List.{get_or_default}
use Rattle.plane_exact.specs.Cone.{Cone}
use Rattle.plane_exact.specs.Moves.{IsDeep}
use Rattle.plane_exact.specs.declared.moves.Move.{Move}
use Rattle.plane_exact.specs.declared.point.Seg.{Seg}
use Rattle.lane_kernels.specs.Boxes.{is_met}
use Rattle.lane_kernels.specs.declared.boxes.Rect.{Rect}
use Rattle.segment_grid.specs.Near.{box_of}
use Rattle.swept_move.specs.Clear.{PassesEdge}
use Rattle.depth_rule.specs.Least.{AtMost}
use Rattle.depth_rule.specs.Met.{IsMetAt}
use Rattle.depth_rule.specs.Parts.{IsMetBy, IsSettled, RemovesNoneBetween}
use Rattle.depth_rule.proofs.Leasts.{IsLeastSoFar}
use Rattle.depth_rule.proofs.Mets.{IsMetHere, IsPassedAt}
use Rattle.depth_rule.proofs.Parts.{spared_more, spared_passes}

-- the edge passes the tests, or is removed at no moment of the first so many parts
abbrev pub IsSparedTo : (k : ℕ) → Cone → Move → Seg → Type 0
IsSparedTo k cone mv e = PassesEdge cone mv e ⊎ ((k ≡ 0) ⊎ RemovesNoneBetween cone mv 0 k e)

module _ (edges : List Seg) (cone : Cone) (mv : Move) where
  -- P holds of each edge, or its number isn't below the least so far
  abbrev pub AreJudged : (P : Seg → Type 0) → (least : Option ℕ) → Type 0
  AreJudged P least = (e : ℕ) (d : Seg) → e < length edges → P (slice_index_or edges e d) ⊎ AtMost least e

  -- each edge that the box meets passes the tests, or its number isn't below the least so far
  abbrev pub AreSeen : (before : Option Rect) → (least : Option ℕ) → Type 0
  AreSeen before least = (e : ℕ) (d : Seg) → e < length edges → IsMetBy before (slice_index_or edges e d) → PassesEdge cone mv (slice_index_or edges e d) ⊎ AtMost least e

  module _ (k : ℕ) (q : Rect) (before : Option Rect) (least next : Option ℕ) (keeps : (e : ℕ) → AtMost least e → AtMost next e)
      (judged : AreJudged (IsSettled q before cone mv) next) (seen : AreSeen before least) where
    pub seen_more : AreSeen (Some q) next
    seen_more e d there met =
        elim (judged e d there) [
          | inl settled ↦ elim settled [
            | inl missed ↦ absurd (let never : true ≡ false = sym met ∙ missed in cc)
            | inr rest ↦ elim rest [ inl old ↦ ⊎_elim inl (λ below. inr (keeps e below)) (seen e d there old) | inr passes ↦ inl passes ]
          ]
          | inr below ↦ inr below
        ]

    pub judged_more : ((e : Seg) → is_met q (box_of e) ≡ false → RemovesNoneBetween cone mv k (k + 1) e)
        → AreJudged (IsSparedTo k cone mv) least → AreJudged (IsSparedTo (k + 1) cone mv) next
    judged_more spared done e d there =
        elim (done e d there) [
          | inr below ↦ inr (keeps e below)
          | inl so_far ↦ elim so_far [
            | inl passes ↦ inl (inl passes)
            | inr none ↦ elim (judged e d there) [
              | inr below ↦ inr below
              | inl settled ↦ elim settled [
                | inl missed ↦ inl (inr (inr (spared_more cone mv (slice_index_or edges e d) k none (spared _ missed))))
                | inr rest ↦ elim rest [
                  | inl old ↦ ⊎_elim (λ passes. inl (inl passes)) (λ below. inr (keeps e below)) (seen e d there old)
                  | inr passes ↦ inl (inl passes)
                ]
              ]
            ]
          ]
        ]

  -- at the end
  pub all_judged : (least : Option ℕ) → 1 ≤ cone.sn → IsDeep mv → IfSome least (IsMetAt edges cone mv) → AreJudged (IsSparedTo 64 cone mv) least
      → IsLeastSoFar (IsPassedAt edges cone mv) (IsMetHere edges cone mv) edges least []
  all_judged least slope deep met done = record {
    bad = met;
    done = λ e there. inr (⊎_elim (λ spared. inl (λ d. subst (PassesEdge cone mv) (get_or_default edges e any d there) (passes _ spared))) inr (done e any there));
  }
    where
      any : Seg
      any = record { a = record { x = pos 0; y = pos 0 }; b = record { x = pos 0; y = pos 0 } }

      passes : (e : Seg) → IsSparedTo 64 cone mv e → PassesEdge cone mv e
      passes e (inl passed) = passed
      passes e (inr (inl none)) = absurd (let zero : 64 ≡ 0 = none in omega arith)
      passes e (inr (inr spared)) = spared_passes cone mv e slope deep spared
