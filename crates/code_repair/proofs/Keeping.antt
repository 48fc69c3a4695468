-- Clear moves that stay, in a longer path; and how many moves are changed.
use Rattle.std.proofs.Common.{◌≡◌, ◌↔◌, inl, inr, ℕ, ◌+◌, List, [], ◌∷◌, arith, ap}
use Rattle.std.specs.Prelude.{All}
use Rattle.std.proofs.lemmas.List.Elements.{All-cons, All-head, All-tail}
use Rattle.plane_exact.specs.Cone.{Cone}
use Rattle.plane_exact.specs.declared.moves.LineMove.{LineMove}
use Rattle.plane_exact.specs.declared.point.Seg.{Seg}
use Rattle.swept_move.specs.Clear.{IsClear}
use Rattle.code_repair.specs.Law.{KeepsClear}

-- a move more in front leaves them there
pub keeps_behind : (edges : List Seg) (cone : Cone) (moves : List LineMove) (first : LineMove) (path : List LineMove) → KeepsClear edges cone moves path → KeepsClear edges cone moves (first ∷ path)
keeps_behind edges cone [] first path keeps = tt
keeps_behind edges cone (move ∷ moves) first path (inl (clear, next)) = inl (
  clear,
  record {
    before = first ∷ next.before;
    line = next.line;
    after = next.after;
    parts = ap (λ ms. first ∷ ms) next.parts;
    later = next.later;
  },
)
keeps_behind edges cone (move ∷ moves) first path (inr (unclear, keeps)) = inr (unclear, keeps_behind edges cone moves first path keeps)

module _ (edges : List Seg) (cone : Cone) (move : LineMove) (moves : List LineMove) (changed later : ℕ) where
  -- all moves are clear
  abbrev AllClear : List LineMove → Type 0
  AllClear ms = All (λ m. IsClear edges cone m.mv) ms

  pub counted_clear : changed ≡ 0 + later → IsClear edges cone move.mv → (later ≡ 0) ↔ AllClear moves → (changed ≡ 0) ↔ AllClear (move ∷ moves)
  counted_clear sum clear count = (
    λ none. All-cons (λ m. IsClear edges cone m.mv) move moves clear (count.0 (omega arith)),
    λ all. let rest = count.1 (All-tail (λ m. IsClear edges cone m.mv) move moves all) in omega arith,
  )

  pub counted_changed : changed ≡ 1 + later → ¬ IsClear edges cone move.mv → (changed ≡ 0) ↔ AllClear (move ∷ moves)
  counted_changed sum unclear = (λ none. absurd (omega arith), λ all. absurd (unclear (All-head (λ m. IsClear edges cone m.mv) move moves all)))
