-- The verdict is exact: a gouge and an outside are real cuts, and a program that is fit is called clear.
use Rattle.std.specs.Prelude.{List, [], ◌∷◌, ◌↔◌, All, slice_index_or}
use Rattle.std.proofs.Common.{◌≡◌, ◌≤◌, ◌<◌, ◌*◌, ℕ, zero, suc, refl, inl, inr, arith, subst, sym}
use Rattle.std.proofs.lemmas.List.{get_or_default}
use Rattle.std.proofs.lemmas.List.Elements.{All-cons, All-nil}
use Rattle.plane_exact.specs.Cone.{Cone}
use Rattle.plane_exact.specs.Moves.{depth_of, first_deep, IsDeep, IsTooDeep, IsTooWide}
use Rattle.plane_exact.specs.Plane.{GridPoint, IsBetween, RationalPoint}
use Rattle.plane_exact.specs.declared.moves.LineMove.{LineMove}
use Rattle.plane_exact.specs.declared.moves.Move.{Move}
use Rattle.plane_exact.specs.declared.point.Seg.{Seg}
use Rattle.engrave_model.specs.Drawing.{edges_of}
use Rattle.engrave_model.specs.Removal.{from_tenths}
use Rattle.swept_move.specs.Clear.{IsClear}
use Rattle.swept_move.proofs.Moves.{cuts_or_passes}
use Rattle.depth_rule.specs.Met.{IsFirstMet, IsOutside}
use Rattle.depth_rule.proofs.Exact.{on_outline, own_place_removed, safe_is_clear}
use Rattle.gouge_checker.specs.Harm.{Harms, IsAnyPoint, IsFit, IsHarmful, IsOnEdge, IsTrueNo}
use Rattle.gouge_checker.specs.Law.{IsTrueVerdict}
use Rattle.gouge_checker.specs.Verdict.{IsFaultOf, IsVerdict}
use Rattle.gouge_checker.specs.declared.verdict.Verdict.{Verdict}
use Rattle.gouge_checker.specs.declared.verdict.Verdict.TheVariants.{Clear, TooDeep, Gouge, Outside}
use Rattle.gouge_checker.proofs.Safety.{clear_code_is_safe}

-- ---- a no is a real cut

module _ (edges : List Seg) (cone : Cone) (some : 1 ≤ cone.sn) where
  gouge_harms : (mv : Move) (e : ℕ) → IsDeep mv → IsFirstMet edges cone mv e → Harms edges cone mv (IsOnEdge edges e)
  gouge_harms mv e deep met =
      let d : Seg = record { a = mv.from.at; b = mv.to.at } in
      elim (cuts_or_passes cone mv (slice_index_or edges e d) some deep) [
        | inl cut ↦ record {
          moment = cut.moment;
          point = cut.point;
          removed = cut.removed;
          outside = λ inside. inside.off_outline (on_outline edges e d cut.point met.there cut.on);
          these = λ d'. let P : Seg → Type 0 = λ s. IsBetween s.a s.b cut.point in subst P (get_or_default edges e d d' met.there) cut.on;
        }
        | inr passes ↦ absurd (met.fails d passes)
      ]

  outside_harms : (mv : Move) → IsDeep mv → IsOutside edges cone mv → Harms edges cone mv IsAnyPoint
  outside_harms mv deep met =
      let own = own_place_removed cone mv some deep in
      record { moment = own.moment; point = from_tenths (first_deep mv); removed = own.removed; outside = met.outside; these = tt }

  -- the move is the first, or a later one
  here : (line : ℕ) (P : RationalPoint → Type 0) (move : LineMove) (moves : List LineMove) → line ≡ move.line → Harms edges cone move.mv P → IsHarmful edges cone (move ∷ moves) line P
  here line P move moves same harm = record { move = move; there = (0, omega arith, refl); same = same; harm = harm }

  later : (line : ℕ) (P : RationalPoint → Type 0) (move : LineMove) (moves : List LineMove) → IsHarmful edges cone moves line P → IsHarmful edges cone (move ∷ moves) line P
  later line P move moves is =
      record { move = is.move; there = (suc is.there.0, let below = is.there.1 in omega arith, is.there.2); same = is.same; harm = is.harm }

  no_later : (move : LineMove) (moves : List LineMove) (verdict : Verdict) → IsTrueNo edges cone moves verdict → IsTrueNo edges cone (move ∷ moves) verdict
  no_later move moves Clear is = is
  no_later move moves (TooDeep line) is = is
  no_later move moves (Gouge line edge) is = later line (IsOnEdge edges edge) move moves is
  no_later move moves (Outside line) is = later line IsAnyPoint move moves is

  no_here : (move : LineMove) (moves : List LineMove) (verdict : Verdict) → IsFaultOf edges cone move verdict → IsTrueNo edges cone (move ∷ moves) verdict
  no_here move moves Clear fault = absurd fault
  no_here move moves (TooDeep line) fault = tt
  no_here move moves (Gouge line edge) fault = here line (IsOnEdge edges edge) move moves fault.0 (gouge_harms move.mv edge fault.1.deep fault.1.meets)
  no_here move moves (Outside line) fault = here line IsAnyPoint move moves fault.0 (outside_harms move.mv fault.1.deep fault.1.meets)

  true_no : (moves : List LineMove) (verdict : Verdict) → IsVerdict edges cone moves verdict → IsTrueNo edges cone moves verdict
  true_no [] verdict is = subst (IsTrueNo edges cone []) (sym is) tt
  true_no (move ∷ moves) verdict (inl clear) = no_later move moves verdict (true_no moves verdict clear.1)
  true_no (move ∷ moves) verdict (inr fault) = no_here move moves verdict fault

-- ---- and a fit program is called clear

-- an end that isn't below the surface isn't too deep
flat_end : (cone : Cone) (z : ℕ) → ¬ (0 < z) → ¬ IsTooWide cone z
flat_end cone zero none wide = let e : cone.sn * 0 ≡ 0 = omega arith in absurd (omega arith)
flat_end cone (suc z) none wide = absurd (none (omega arith))

flat_is_narrow : (cone : Cone) (mv : Move) → ¬ IsDeep mv → ¬ IsTooDeep cone mv
flat_is_narrow cone mv flat (inl wide) = flat_end cone (depth_of mv.from.h) (λ some. flat (inl some)) wide
flat_is_narrow cone mv flat (inr wide) = flat_end cone (depth_of mv.to.h) (λ some. flat (inr some)) wide

clear_is_narrow : (edges : List Seg) (cone : Cone) (mv : Move) → IsClear edges cone mv → ¬ IsTooDeep cone mv
clear_is_narrow edges cone mv (inl flat) = flat_is_narrow cone mv flat
clear_is_narrow edges cone mv (inr clear) = clear.narrow

-- a clear move has no fault
no_fault : (edges : List Seg) (cone : Cone) (move : LineMove) (verdict : Verdict) → IsClear edges cone move.mv → ¬ IsFaultOf edges cone move verdict
no_fault edges cone move Clear clear fault = fault
no_fault edges cone move (TooDeep line) clear fault = clear_is_narrow edges cone move.mv clear fault.1
no_fault edges cone move (Gouge line edge) (inl flat) fault = flat fault.1.deep
no_fault edges cone move (Gouge line edge) (inr clear) fault =
    let d : Seg = record { a = move.mv.from.at; b = move.mv.to.at } in fault.1.meets.fails d (clear.passes edge d fault.1.meets.there)
no_fault edges cone move (Outside line) (inl flat) fault = flat fault.1.deep
no_fault edges cone move (Outside line) (inr clear) fault = fault.1.meets.outside clear.inside

module _ (loops : List (List GridPoint)) (cone : Cone) (some : 1 ≤ cone.sn) where
  narrow_of_clear : (moves : List LineMove) → IsVerdict (edges_of loops) cone moves Clear → All (λ move. ¬ IsTooDeep cone move.mv) moves
  narrow_of_clear [] is = All-nil (λ move. ¬ IsTooDeep cone move.mv)
  narrow_of_clear (move ∷ moves) (inl clear) =
      All-cons (λ move. ¬ IsTooDeep cone move.mv) move moves (clear_is_narrow (edges_of loops) cone move.mv clear.0) (narrow_of_clear moves clear.1)
  narrow_of_clear (move ∷ moves) (inr fault) = absurd fault

  fit_of_clear : (moves : List LineMove) → IsVerdict (edges_of loops) cone moves Clear → IsFit (edges_of loops) cone moves
  fit_of_clear moves is = record { narrow = narrow_of_clear moves is; safe = clear_code_is_safe loops cone moves is }

  -- the moves behind the first of a fit program
  rest_is_fit : (move : LineMove) (moves : List LineMove) → IsFit (edges_of loops) cone (move ∷ moves) → IsFit (edges_of loops) cone moves
  rest_is_fit move moves fit = record {
    narrow = λ k d there. fit.narrow (suc k) d (omega arith);
    safe = λ k d there. fit.safe (suc k) d (omega arith);
  }

  clear_of_fit : (moves : List LineMove) (verdict : Verdict) → IsVerdict (edges_of loops) cone moves verdict → IsFit (edges_of loops) cone moves → verdict ≡ Clear
  clear_of_fit [] verdict is fit = is
  clear_of_fit (move ∷ moves) verdict (inl clear) fit = clear_of_fit moves verdict clear.1 (rest_is_fit move moves fit)
  clear_of_fit (move ∷ moves) verdict (inr fault) fit =
      absurd (no_fault (edges_of loops) cone move verdict
      (safe_is_clear (edges_of loops) cone move.mv some (fit.narrow 0 move (omega arith)) (fit.safe 0 move (omega arith))) fault)

  -- the verdict is clear exactly where no move is too deep and all are safe
  clear_is_fit : (moves : List LineMove) (verdict : Verdict) → IsVerdict (edges_of loops) cone moves verdict
      → (verdict ≡ Clear) ↔ IsFit (edges_of loops) cone moves
  clear_is_fit moves verdict is = (
    (λ clear. fit_of_clear moves (subst (IsVerdict (edges_of loops) cone moves) clear is)),
    (λ fit. clear_of_fit moves verdict is fit),
  )

-- ---- so every verdict is true
pub verdict_is_true : (loops : List (List GridPoint)) (cone : Cone) (moves : List LineMove) (verdict : Verdict) → 1 ≤ cone.sn
    → IsVerdict (edges_of loops) cone moves verdict → IsTrueVerdict (edges_of loops) cone moves verdict
verdict_is_true loops cone moves verdict some is =
    let exact = clear_is_fit loops cone some moves verdict is in
    record { safe = λ clear. (exact.0 clear).safe; exact = exact; harm = true_no (edges_of loops) cone some moves verdict is }
