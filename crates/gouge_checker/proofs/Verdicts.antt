-- The verdict on a list of moves, from its first move on, and with one more move behind the last.
use Rattle.std.specs.Prelude.{◌≡◌, ◌≢◌, ◌+◌, ◌<◌, ℕ, List, [], ◌∷◌, ◌++◌, length, drop}
use Rattle.std.proofs.Common.{refl, subst, sym, inl, inr, get_or, ap, ◌∙◌}
use Rattle.std.proofs.lemmas.List.{drop_more}
use Rattle.plane_exact.specs.Cone.{Cone}
use Rattle.plane_exact.specs.declared.moves.LineMove.{LineMove}
use Rattle.plane_exact.specs.declared.point.Seg.{Seg}
use Rattle.swept_move.specs.Clear.{IsClear}
use Rattle.gouge_checker.specs.Verdict.{IsFaultOf, IsVerdict, IsVerdictOfMove}
use Rattle.gouge_checker.specs.declared.verdict.Verdict.{Verdict}
use Rattle.gouge_checker.specs.declared.verdict.Verdict.TheVariants.{Clear, TooDeep, Gouge, Outside}

-- a verdict on the moves from the i-th on is one on all of them
abbrev pub IsDecidedBy : List Seg → Cone → List LineMove → ℕ → Type 0
IsDecidedBy edges cone moves i = (verdict : Verdict) → IsVerdict edges cone (drop i moves) verdict → IsVerdict edges cone moves verdict

pub fault_of : (edges : List Seg) (cone : Cone) (move : LineMove) (verdict : Verdict) → verdict ≢ Clear
    → IsVerdictOfMove edges cone move verdict → IsFaultOf edges cone move verdict
fault_of edges cone move Clear other is = absurd (other refl)
fault_of edges cone move (TooDeep line) other is = is
fault_of edges cone move (Gouge line edge) other is = is
fault_of edges cone move (Outside line) other is = is

module _ (edges : List Seg) (cone : Cone) (moves : List LineMove) (i : ℕ) (move : LineMove)
    (below : i < length moves) (is : move ≡ get_or moves i move) where
  from_here : drop i moves ≡ move ∷ drop (i + 1) moves
  from_here = drop_more moves i move below ∙ ap (λ m. m ∷ drop (i + 1) moves) (sym is)

  pub decided_after : IsClear edges cone move.mv → IsDecidedBy edges cone moves i → IsDecidedBy edges cone moves (i + 1)
  decided_after clear decides verdict later =
      decides verdict (subst (λ ms. IsVerdict edges cone ms verdict) (sym from_here) (inl (clear, later)))

  pub decided_here : (verdict : Verdict) → IsFaultOf edges cone move verdict → IsDecidedBy edges cone moves i → IsVerdict edges cone moves verdict
  decided_here verdict fault decides =
      decides verdict (subst (λ ms. IsVerdict edges cone ms verdict) (sym from_here) (inr fault))

-- ---- with one more move behind the last

module _ (edges : List Seg) (cone : Cone) (move : LineMove) where
  verdict_of_one : (verdict : Verdict) → IsVerdictOfMove edges cone move verdict → IsVerdict edges cone (move ∷ []) verdict
  verdict_of_one Clear is = inl (is, refl)
  verdict_of_one (TooDeep line) is = inr is
  verdict_of_one (Gouge line edge) is = inr is
  verdict_of_one (Outside line) is = inr is

  -- behind clear moves the last one decides
  pub clear_then : (moves : List LineMove) (verdict : Verdict) → IsVerdict edges cone moves Clear
      → IsVerdictOfMove edges cone move verdict → IsVerdict edges cone (moves ++ move ∷ []) verdict
  clear_then [] verdict clear is = verdict_of_one verdict is
  clear_then (first ∷ moves) verdict (inl clear) is = inl (clear.0, clear_then moves verdict clear.1 is)
  clear_then (first ∷ moves) verdict (inr fault) is = absurd fault

  -- and a fault stands
  pub fault_stands : (moves : List LineMove) (verdict : Verdict) → verdict ≢ Clear
      → IsVerdict edges cone moves verdict → IsVerdict edges cone (moves ++ move ∷ []) verdict
  fault_stands [] verdict other is = absurd (other is)
  fault_stands (first ∷ moves) verdict other (inl clear) = inl (clear.0, fault_stands moves verdict other clear.1)
  fault_stands (first ∷ moves) verdict other (inr fault) = inr fault
