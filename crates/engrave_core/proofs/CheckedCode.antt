-- What `check` answers says of the stored G-code program: Done, that it is fit, and a verdict, that it isn't, and which line harms.
use Rattle.std.specs.Prelude.{◌≡◌, ℕ, List, length}
use Rattle.std.proofs.Common.{refl, subst}
use Rattle.engrave_model.specs.Drawing.{edges_of}
use Rattle.gouge_checker.specs.Harm.{IsTrueNo}
use Rattle.gouge_checker.specs.declared.verdict.Verdict.{Verdict}
use Rattle.gouge_checker.specs.declared.verdict.Verdict.TheVariants.{Clear, TooDeep, Gouge, Outside}
use Rattle.job_words.specs.declared.request.DrawingWords.{DrawingWords}
use Rattle.plane_exact.specs.Cone.{Cone}
use Rattle.engrave_core.specs.Commands.Check.{IsDueOfCheck, IsReportOf, IsTrueOfCheck, StoresFitCode, StoresSafeCode, StoresUnfitCode}
use Rattle.engrave_core.specs.Stored.{Files, stored_code}
use Rattle.engrave_core.specs.declared.outcome.Outcome.{Outcome}
use Rattle.engrave_core.specs.declared.outcome.Outcome.TheVariants as outcome
use Rattle.engrave_core.specs.declared.refusal.Refusal.TheVariants.{NotClear}
use Rattle.engrave_core.proofs.Done.{code_gives_none, found, found_drawing, found_drawing_for, found_for, refusal_is_not_done}

reported_clear : (count : ℕ) (verdict : Verdict) (text : List ℕ) → IsReportOf count verdict outcome.Done text → verdict ≡ Clear
reported_clear count Clear text report = refl
reported_clear count (TooDeep line) text report = absurd (refusal_is_not_done (NotClear (TooDeep line)) report.refused)
reported_clear count (Gouge line edge) text report = absurd (refusal_is_not_done (NotClear (Gouge line edge)) report.refused)
reported_clear count (Outside line) text report = absurd (refusal_is_not_done (NotClear (Outside line)) report.refused)

-- a reported verdict is the one on the moves
record IsReported (is reported : Verdict) : Type 0 where
  same : is ≡ reported
  fault : is ≡ Clear → ⊥

reported_fault : (count : ℕ) (is reported : Verdict) (text : List ℕ) → IsReportOf count is (outcome.NotClear reported) text → IsReported is reported
reported_fault count Clear reported text report = absurd (let no = report.done in cc)
reported_fault count (TooDeep line) reported text report = record { same = (let e = report.refused in cc); fault = λ clear. cc }
reported_fault count (Gouge line edge) reported text report = record { same = (let e = report.refused in cc); fault = λ clear. cc }
reported_fault count (Outside line) reported text report = record { same = (let e = report.refused in cc); fault = λ clear. cc }

checked_is_fit : (files : Files) (shape : DrawingWords) (code : List ℕ) (bit : Cone) (text : List ℕ)
    → IsDueOfCheck files shape code bit outcome.Done text → StoresFitCode files shape code bit
checked_is_fit files shape code bit text given =
    let read = found_drawing _ files shape text given in
    let moves = found _ (stored_code files shape.units code) text read.gives in
    let checked = moves.gives in
    record {
      drawing = read.drawing;
      moves = moves.value;
      drawing_is = read.is;
      code_is = moves.is;
      so = checked.exact.0 (reported_clear (length moves.value) checked.verdict text checked.report);
    }

checked_is_unfit : (files : Files) (shape : DrawingWords) (code : List ℕ) (bit : Cone) (verdict : Verdict) (text : List ℕ)
    → IsDueOfCheck files shape code bit (outcome.NotClear verdict) text → StoresUnfitCode files shape code bit verdict
checked_is_unfit files shape code bit verdict text given =
    let read = found_drawing_for _ files shape verdict text given in
    let moves = found_for _ (stored_code files shape.units code) verdict text (code_gives_none files shape.units code) read.gives in
    let checked = moves.gives in
    let reported = reported_fault (length moves.value) checked.verdict verdict text checked.report in
    record {
      drawing = read.drawing;
      moves = moves.value;
      drawing_is = read.is;
      code_is = moves.is;
      so = ((λ fit. reported.fault (checked.exact.1 fit)), subst (IsTrueNo (edges_of read.drawing.loops) bit moves.value) reported.same checked.harm);
    }

pub checked_is_true : (files : Files) (shape : DrawingWords) (code : List ℕ) (bit : Cone) (outcome : Outcome) (text : List ℕ)
    → IsDueOfCheck files shape code bit outcome text → IsTrueOfCheck files shape code bit outcome
checked_is_true files shape code bit outcome.Done text due = checked_is_fit files shape code bit text due
checked_is_true files shape code bit (outcome.NotClear verdict) text due = checked_is_unfit files shape code bit verdict text due
checked_is_true files shape code bit outcome.Usage text due = tt
checked_is_true files shape code bit (outcome.Input fault) text due = tt
checked_is_true files shape code bit (outcome.Absent which) text due = tt
checked_is_true files shape code bit outcome.ReadFault text due = tt
checked_is_true files shape code bit outcome.WriteFault text due = tt
checked_is_true files shape code bit outcome.Memory text due = tt

pub checked_is_safe : (files : Files) (shape : DrawingWords) (code : List ℕ) (bit : Cone) (text : List ℕ)
    → IsDueOfCheck files shape code bit outcome.Done text → StoresSafeCode files shape code bit
checked_is_safe files shape code bit text due =
    let fit = checked_is_fit files shape code bit text due in
    record { drawing = fit.drawing; moves = fit.moves; drawing_is = fit.drawing_is; code_is = fit.code_is; so = fit.so.safe }
