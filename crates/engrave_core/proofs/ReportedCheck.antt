-- The verdict on a stored program, reported over its drawing, is what is due for `check`.
use Rattle.std.specs.Prelude.{◌≡◌, ◌≤◌, ℕ, List, Option, None, Some, Result, Ok, Err, Vec, IfErr, IfSome}
use Rattle.std.proofs.Common.{subst}
use Rattle.engrave_model.specs.Drawing.{edges_of}
use Rattle.gouge_checker.specs.declared.verdict.Verdict.{Verdict}
use Rattle.gouge_checker.proofs.Exact.{verdict_is_true}
use Rattle.job_words.specs.declared.request.DrawingWords.{DrawingWords}
use Rattle.plane_exact.specs.Cone.{Cone}
use Rattle.engrave_core.specs.Commands.Check.{IsDueOfCheck, IsRefusalOfVerdict, IsReportOf}
use Rattle.engrave_core.specs.Drawing.{IsDrawingOf, ReadDrawing}
use Rattle.engrave_core.specs.Given.{IsReported}
use Rattle.engrave_core.specs.Judging.{HasVerdict}
use Rattle.engrave_core.specs.Outcome.{outcome_of}
use Rattle.engrave_core.specs.Stored.{Files, IsCaused, stored_code}
use Rattle.engrave_core.specs.declared.outcome.Outcome.{Outcome}
use Rattle.engrave_core.specs.declared.refusal.Refusal.{Refusal}
use Rattle.engrave_core.specs.declared.refusal.Refusal.TheVariants.{NotClear, Usage, Input, Absent, ReadFault, Memory}
use Rattle.engrave_core.proofs.Reported.{IsReported-weaker}

-- a report of the verdict on the stored moves is due
due_of_verdict : (files : Files) (shape : DrawingWords) (code : List ℕ) (bit : Cone) (drawing : ReadDrawing) (verdict : Verdict) (count : ℕ) (outcome : Outcome) (text : List ℕ)
    → 1 ≤ bit.sn → IsDrawingOf files shape (Ok drawing) → HasVerdict (edges_of drawing.loops) bit (stored_code files shape.units code) verdict count
    → IsReportOf count verdict outcome text → IsDueOfCheck files shape code bit outcome text
due_of_verdict files shape code bit drawing verdict count outcome text some drawing_is has report =
    let true_verdict = verdict_is_true drawing.loops bit has.moves verdict some has.judged.is in
    record {
      answer = Ok drawing;
      is = drawing_is;
      given =
          rw (has.read)
          (record {
            verdict = verdict;
            is = has.judged.is;
            exact = true_verdict.exact;
            harm = true_verdict.harm;
            report = subst (λ n. IsReportOf n verdict outcome text) has.judged.counted report;
          });
    }

-- whatever the depot holds: the drawing first, and then the program, where the files are still the same
pub reported_check : {A : Type 0} (held now : Option Files) (shape : DrawingWords) (code code_name : List ℕ) (bit : Cone) (drawing : ReadDrawing)
    (verdict : Verdict) (count : ℕ) (r : Result (Vec ℕ A) Refusal) → now ≡ held → code_name ≡ code → 1 ≤ bit.sn
    → IfSome held (λ files. IsDrawingOf files shape (Ok drawing))
    → IfSome now (λ files. HasVerdict (edges_of drawing.loops) bit (stored_code files shape.units code_name) verdict count)
    → IsReported (IsReportOf count verdict) r → IfSome held (λ files. IsReported (IsDueOfCheck files shape code bit) r)
reported_check None now shape code code_name bit drawing verdict count r same coded some there has report = tt
reported_check (Some files) now shape code code_name bit drawing verdict count r same coded some there has report =
    let judged : HasVerdict (edges_of drawing.loops) bit (stored_code files shape.units code_name) verdict count =
    subst (λ o. IfSome o (λ fs. HasVerdict (edges_of drawing.loops) bit (stored_code fs shape.units code_name) verdict count)) same has in
    IsReported-weaker r
    (λ outcome text. due_of_verdict files shape code bit drawing verdict count outcome text some there
    (subst (λ name. HasVerdict (edges_of drawing.loops) bit (stored_code files shape.units name) verdict count) coded judged)) report

-- no refusal by a verdict is a fault of a file
pub uncaused : {A : Type 0} (r : Result A Refusal) (a b m n : ℕ) → IfErr r (λ refusal. IsRefusalOfVerdict (outcome_of refusal)) → IfErr r (λ refusal. IsCaused a b m n (outcome_of refusal))
uncaused (Ok x) a b m n is = tt
uncaused (Err (NotClear verdict)) a b m n is = record { read_fault = λ other. cc; absent = tt }
uncaused (Err Usage) a b m n is = absurd is
uncaused (Err (Input fault)) a b m n is = absurd is
uncaused (Err (Absent which)) a b m n is = absurd is
uncaused (Err ReadFault) a b m n is = absurd is
uncaused (Err Memory) a b m n is = record { read_fault = λ other. cc; absent = tt }
