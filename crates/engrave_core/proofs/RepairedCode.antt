-- What `repair` writes is a good repair of the stored program.
use Rattle.std.specs.Prelude.{◌≡◌, ◌≤◌, ◌↔◌, ℕ, List, [], ◌∷◌, Ok, All, length}
use Rattle.std.proofs.Common.{ap, refl, subst, sym, ◌∙◌, inl, inr}
use Rattle.std.proofs.lemmas.List.Elements.{All-cons, All-head, All-nil, All-tail}
use Rattle.code_repair.specs.Law.{IsRepaired}
use Rattle.code_repair.specs.Repair.{IsRepair}
use Rattle.code_repair.specs.declared.fault.RepairFault.TheVariants.{TooMany}
use Rattle.engrave_model.specs.Drawing.{edges_of}
use Rattle.gcode_text.specs.Moves.{moves_of}
use Rattle.gcode_text.specs.Visits.{visit_moves, visits_text}
use Rattle.gcode_text.specs.declared.modal.TheConstants.{MOST_MOVES}
use Rattle.gouge_checker.proofs.Safety.{clear_code_is_safe}
use Rattle.gouge_checker.specs.Verdict.{IsVerdict}
use Rattle.gouge_checker.specs.declared.verdict.Verdict.TheVariants.{Clear}
use Rattle.grid_num.specs.declared.units.Units.{Units}
use Rattle.job_words.specs.declared.request.DrawingWords.{DrawingWords}
use Rattle.plane_exact.specs.Cone.{Cone}
use Rattle.plane_exact.specs.Heights.{GridPlace}
use Rattle.plane_exact.specs.Plane.{GridPoint}
use Rattle.plane_exact.specs.declared.moves.LineMove.{LineMove}
use Rattle.plane_exact.specs.declared.point.Seg.{Seg}
use Rattle.swept_move.specs.Clear.{IsClear}
use Rattle.engrave_core.specs.Commands.Repair.{IsDueOfRepair, IsMendedOrRefused, IsRepairText, StoresRepaired}
use Rattle.engrave_core.specs.Drawing.{IsDrawingOf, ReadDrawing}
use Rattle.engrave_core.specs.Refusals.{repair_refusal}
use Rattle.engrave_core.specs.Stored.{Files, stored_code}
use Rattle.engrave_core.specs.declared.outcome.Outcome.TheVariants.{Done}
use Rattle.engrave_core.proofs.Done.{found, found_drawing, refusal_is_not_done}

-- moves are called clear exactly where each of them is
called_clear : (edges : List Seg) (cone : Cone) (moves : List LineMove) → All (λ move. IsClear edges cone move.mv) moves ↔ IsVerdict edges cone moves Clear
called_clear edges cone [] = (λ all. refl, λ is. All-nil (λ move. IsClear edges cone move.mv))
called_clear edges cone (move ∷ moves) =
    let rest = called_clear edges cone moves in (
      λ all. inl (All-head (λ m. IsClear edges cone m.mv) move moves all, rest.0 (All-tail (λ m. IsClear edges cone m.mv) move moves all)),
      λ is. elim is [
        | inl clear ↦ All-cons (λ m. IsClear edges cone m.mv) move moves clear.0 (rest.1 clear.1)
        | inr fault ↦ absurd fault
      ],
    )

-- a repair that is written, with what is known of it
pub mended : (units : Units) (bit : Cone) (safe feed : ℕ) (loops : List (List GridPoint)) (moves : List LineMove) (visits : List GridPlace) (changed : ℕ) (text : List ℕ)
    → IsRepair (edges_of loops) bit safe moves visits changed → IsRepaired (edges_of loops) bit moves (visit_moves safe visits) changed
    → text ≡ visits_text units safe feed changed (length moves) visits → moves_of units text ≡ Ok (visit_moves safe visits)
    → IsRepairText units bit safe feed loops moves text
mended units bit safe feed loops moves visits changed text is worth lines read =
    let path = visit_moves safe visits in
    let clear = (called_clear (edges_of loops) bit path).0 worth.clear in
    let unchanged = called_clear (edges_of loops) bit moves in
    record {
      visits = visits;
      changed = changed;
      is = is;
      lines = lines;
      good = record {
        path = path;
        read = read;
        clear = clear;
        safe = clear_code_is_safe loops bit path clear;
        no_more = worth.no_more;
        keeps = worth.keeps;
        unchanged = (λ none. unchanged.0 (worth.unchanged.0 none), λ called. worth.unchanged.1 (unchanged.1 called));
      };
    }

-- the same, as the code has it: of the visits that were given to be written
pub written : (units : Units) (bit : Cone) (safe feed : ℕ) (loops : List (List GridPoint)) (moves : List LineMove) (visits : List GridPlace) (changed : ℕ) (text : List ℕ) (given : List GridPlace)
    → IsRepair (edges_of loops) bit safe moves visits changed → IsRepaired (edges_of loops) bit moves (visit_moves safe visits) changed
    → given ≡ visits → length visits ≤ MOST_MOVES → text ≡ visits_text units safe feed changed (length moves) given
    → (length given ≤ MOST_MOVES → moves_of units text ≡ Ok (visit_moves safe given)) → IsRepairText units bit safe feed loops moves text
written units bit safe feed loops moves visits changed text given is worth given_is few text_is read =
    mended units bit safe feed loops moves visits changed text is worth
    (text_is ∙ ap (λ vs. visits_text units safe feed changed (length moves) vs) given_is)
    (subst (λ vs. moves_of units text ≡ Ok (visit_moves safe vs)) given_is (read (subst (λ vs. length vs ≤ MOST_MOVES) (sym given_is) few)))

repaired_of : (files : Files) (shape : DrawingWords) (code : List ℕ) (bit : Cone) (safe feed : ℕ) (text : List ℕ) (drawing : ReadDrawing) (moves : List LineMove)
    → IsDrawingOf files shape (Ok drawing) → stored_code files shape.units code ≡ Ok moves
    → IsMendedOrRefused shape.units bit safe feed drawing.loops moves Done text → StoresRepaired files shape code bit safe feed text
repaired_of files shape code bit safe feed text drawing moves drawing_is code_is (inl is) = record { drawing = drawing; moves = moves; drawing_is = drawing_is; code_is = code_is; mended = is.mended }
repaired_of files shape code bit safe feed text drawing moves drawing_is code_is (inr refused) = absurd (refusal_is_not_done (repair_refusal TooMany) refused.refuses.refused)

-- what is due with Done is a good repair of the stored program
pub repaired_is_good : (files : Files) (shape : DrawingWords) (code : List ℕ) (bit : Cone) (safe feed : ℕ) (text : List ℕ)
    → IsDueOfRepair files shape code bit safe feed Done text → StoresRepaired files shape code bit safe feed text
repaired_is_good files shape code bit safe feed text due =
    let read = found_drawing _ files shape text due in
    let moves = found _ (stored_code files shape.units code) text read.gives in
    repaired_of files shape code bit safe feed text read.drawing moves.value read.is moves.is moves.gives
