-- What Done says of a checked program, of a carved one and of a covered one; and that what the outcome of a check says is true.
use Rattle.std.specs.Prelude.{◌≡◌, ℕ, IfSome, Option, List}
use Rattle.std.proofs.Common.{sym, subst, ◌∙◌, ◌⊎◌, ⊎_elim, inl, inr}
use Rattle.job_words.specs.declared.request.DrawingWords.{DrawingWords}
use Rattle.job_words.specs.declared.request.Request.{Request}
use Rattle.plane_exact.specs.Cone.{Cone}
use Rattle.shop_port.specs.Output.{Appended}
use Rattle.engrave_core.specs.Commands.Carve.{job_of, pocket_of}
use Rattle.engrave_core.specs.Commands.Check.{IsDueOfCheck, IsTrueOfCheck}
use Rattle.engrave_core.specs.Commands.Flat.{floor_job, lines_of}
use Rattle.engrave_core.specs.Commands.Strokes.{stroke_job}
use Rattle.engrave_core.specs.Due.{IsDueOf, IsGoodRepairRun, IsGoodText, IsSafeRun, IsTrueEngraving, IsTrueMilling, IsTrueReport, IsTrueRun}
use Rattle.engrave_core.specs.Given.{cone_of}
use Rattle.engrave_core.specs.Outcome.{IfAnswered}
use Rattle.engrave_core.specs.Stored.{Files}
use Rattle.engrave_core.specs.Top.{Writes}
use Rattle.engrave_core.specs.declared.outcome.Outcome.{Outcome}
use Rattle.engrave_core.specs.declared.outcome.Outcome.TheVariants.{Absent, Done, Input, Memory, NotClear, ReadFault, Usage, WriteFault}
use Rattle.engrave_core.proofs.CarvedCode.{carved_is_good}
use Rattle.engrave_core.proofs.CheckedCode.{checked_is_safe, checked_is_true}
use Rattle.engrave_core.proofs.CoveredCode.{covered_is_told}
use Rattle.engrave_core.proofs.FloorPrograms.{milled_is_so}
use Rattle.engrave_core.proofs.RepairedCode.{repaired_is_good}
use Rattle.engrave_core.proofs.StrokePrograms.{engraved_is_so}
use Rattle.engrave_core.proofs.Writing.{IfSome-map}

-- an answer to a check says what is true of the stored program, and one that answers nothing says nothing
answered_is_true : (files : Files) (shape : DrawingWords) (code : List ℕ) (bit : Cone) (outcome : Outcome) (text : List ℕ)
    → IfAnswered outcome (IsDueOfCheck files shape code bit outcome text) → IsTrueOfCheck files shape code bit outcome
answered_is_true files shape code bit Done text due = checked_is_true files shape code bit Done text due
answered_is_true files shape code bit (NotClear verdict) text due = checked_is_true files shape code bit (NotClear verdict) text due
answered_is_true files shape code bit Usage text due = tt
answered_is_true files shape code bit (Input fault) text due = tt
answered_is_true files shape code bit (Absent which) text due = tt
answered_is_true files shape code bit ReadFault text due = tt
answered_is_true files shape code bit WriteFault text due = tt
answered_is_true files shape code bit Memory text due = tt

no_fault : Done ≡ WriteFault → ⊥
no_fault same = cc

-- a text that is due with Done is safe and good, where it is a program, and true, where it is a report
module _ (asked : Option Request) (text : List ℕ) (files : Files) (due : IsDueOf files asked Done text) where
  due_as : (other : Option Request) → asked ≡ other → IsDueOf files other Done text
  due_as other is = subst (λ a. IsDueOf files a Done text) is due

  pub safe_run : IsSafeRun files asked
  safe_run shape code bit rmax is = checked_is_safe files shape code (cone_of bit rmax) text (due_as _ is)

  pub good_text : IsGoodText files asked text
  good_text shape bit rmax step limit safe feed pitch lines over is =
      carved_is_good files shape (job_of shape.units (cone_of bit rmax) step limit safe feed) pitch (pocket_of lines over) text (due_as _ is)

  pub true_report : IsTrueReport files asked text
  true_report shape code bit rmax pitch is = covered_is_told files shape code (cone_of bit rmax) pitch text (due_as _ is)

  pub good_repair : IsGoodRepairRun files asked text
  good_repair shape code bit rmax safe feed is = repaired_is_good files shape code (cone_of bit rmax) safe feed text (due_as _ is)

  pub true_engraving : IsTrueEngraving files asked text
  true_engraving shape bit rmax depth safe feed pitch is =
      engraved_is_so files shape (stroke_job shape.units (cone_of bit rmax) depth safe feed) depth pitch text (due_as _ is)

  pub true_milling : IsTrueMilling files asked text
  true_milling shape bit rmax radius limit over safe feed pitch lines is =
      milled_is_so files shape (floor_job shape.units (cone_of bit rmax) limit safe feed) (record { radius = radius; over = over; way = lines_of lines }) pitch text
      (due_as _ is)

-- where the reply was made for a request, and its whole text was written with its outcome, or the output failed
module _ (asked : Option Request) (text : List ℕ) (outcome result : Outcome) (either : (result ≡ outcome) ⊎ (result ≡ WriteFault)) where
  -- a result Done is the reply's outcome
  done_same : result ≡ Done → result ≡ outcome
  done_same done = ⊎_elim (λ same. same) (λ cut. absurd (no_fault (sym done ∙ cut))) either

  -- with it the text was due with Done
  due_done : (files : Files) → IfAnswered outcome (IsDueOf files asked outcome text) → result ≡ Done → IsDueOf files asked Done text
  due_done files due done = subst (λ o. IfAnswered o (IsDueOf files asked o text)) (sym (done_same done) ∙ done) due

  module _ (held : Option Files) (due : IfSome held (λ files. IfAnswered outcome (IsDueOf files asked outcome text))) where
    -- what is so of every text that is due with Done
    pub done_is : (Is : Files → Type 0) → ((files : Files) → IsDueOf files asked Done text → Is files) → IfSome held (λ files. result ≡ Done → Is files)
    done_is Is law = IfSome-map held (λ files due done. law files (due_done files due done)) due

    -- and such a text was written
    pub written_is : (IsSo : Files → List ℕ → Type 0) (old new : Option (List ℕ)) → ((files : Files) → IsDueOf files asked Done text → IsSo files text)
        → (result ≡ outcome → Appended old new text) → IfSome held (λ files. result ≡ Done → Writes (IsSo files) old new)
    written_is IsSo old new law appended =
        IfSome-map held (λ files due done. record { text = text; so = law files (due_done files due done); appended = appended (done_same done) }) due

  pub written_is_true : (files : Files) → IfAnswered outcome (IsDueOf files asked outcome text) → IsTrueRun files asked result
  written_is_true files due shape code bit rmax is = by either
    where
      by : (result ≡ outcome) ⊎ (result ≡ WriteFault) → IsTrueOfCheck files shape code (cone_of bit rmax) result
      by (inl same) =
          subst (IsTrueOfCheck files shape code (cone_of bit rmax)) (sym same)
          (answered_is_true files shape code (cone_of bit rmax) outcome text (subst (λ a. IfAnswered outcome (IsDueOf files a outcome text)) is due))
      by (inr cut) = subst (IsTrueOfCheck files shape code (cone_of bit rmax)) (sym cut) tt
