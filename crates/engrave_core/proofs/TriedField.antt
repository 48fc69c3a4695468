-- A trial: its refusals, and that its program is fit, read back, and within the limits of a path.
use Rattle.std.specs.Prelude.{◌≡◌, ◌≤◌, ℕ, List, Result, Ok, Err, Vec, length}
use Rattle.std.specs.Result.{IsErr, IsErrAnd}
use Rattle.std.proofs.Common.{arith, ap, refl, subst, sym, ◌∙◌, inl, inr}
use Rattle.engrave_model.specs.Drawing.{edges_of}
use Rattle.carve_plan.proofs.Planned.{plan_within}
use Rattle.carve_plan.specs.declared.fault.PlanFault.TheVariants.{Contact as ContactOf}
use Rattle.gcode_text.specs.Moves.{moves_of}
use Rattle.gcode_text.specs.declared.job.Job.{Job}
use Rattle.gouge_checker.proofs.Exact.{verdict_is_true}
use Rattle.gouge_checker.specs.Harm.{IsFit}
use Rattle.gouge_checker.specs.declared.verdict.Verdict.TheVariants.{Clear}
use Rattle.plane_exact.specs.Nodes.{AreWithinLimits, GridNode}
use Rattle.plane_exact.specs.Plane.{GridPoint}
use Rattle.plane_exact.specs.Uncut.{UncutPoints}
use Rattle.plane_exact.specs.declared.moves.LineMove.{LineMove}
use Rattle.tangent_disc.specs.Contacts.{AreContacts, IsContactFault}
use Rattle.tangent_disc.specs.declared.contact.Contact.{Contact}
use Rattle.tangent_disc.specs.declared.contact.ContactFault.{ContactFault}
use Rattle.tangent_disc.specs.declared.contact.ContactFault.TheVariants.{Memory, StepTooFine, TooMany}
use Rattle.trial_field.specs.Field.{trial_loops}
use Rattle.engrave_core.specs.Commands.Trial.{IsDueOfTrial, IsSummary, IsUntried, summary_of, trial_job, trial_pitch, trial_pocket}
use Rattle.engrave_core.specs.Given.{IsReported}
use Rattle.engrave_core.specs.Line.{line_of}
use Rattle.engrave_core.specs.Outcome.{IfAnswered, outcome_of}
use Rattle.engrave_core.specs.Programs.{IsProgramOf}
use Rattle.engrave_core.specs.Refusals.{contact_refusal}
use Rattle.engrave_core.specs.declared.commands.trial.Summary.{Summary}
use Rattle.engrave_core.specs.declared.outcome.Outcome.TheVariants.{Done}
use Rattle.engrave_core.specs.declared.refusal.Refusal.{Refusal}
use Rattle.engrave_core.proofs.Done.{refused_is_answered}
use Rattle.engrave_core.proofs.Reported.{IfAnswered-weaker}

-- what is read as one list of moves and as another is one list
abbrev value_or : {A E : Type 0} → A → Result A E → A
value_or d (Ok x) = x
value_or d (Err e) = d

pub one_reading : {A E : Type 0} (r : Result A E) (x y : A) → r ≡ Ok x → r ≡ Ok y → x ≡ y
one_reading r x y is also = ap (value_or x) (sym is ∙ also)

-- ---- the field's contacts

-- a fault of the contacts is answered by its refusal
pub uncontacted : (loops drawing : List (List GridPoint)) (job : Job) (fault : ContactFault) → drawing ≡ loops → job ≡ trial_job → IsContactFault drawing job.step fault
    → IfAnswered (outcome_of (contact_refusal fault)) (IsUntried loops (outcome_of (contact_refusal fault)) (line_of (outcome_of (contact_refusal fault))))
uncontacted loops drawing job (StepTooFine e) drawing_is job_is is = inl (record {
  fault = ContactOf (StepTooFine e);
  told = λ same. cc;
  is = record { is = subst (λ (j : Job). IsContactFault loops j.step (StepTooFine e)) job_is (subst (λ d. IsContactFault d job.step (StepTooFine e)) drawing_is is); told = λ same. cc };
  refuses = record { refused = refl; line = refl };
})
uncontacted loops drawing job TooMany drawing_is job_is is = inl (record {
  fault = ContactOf TooMany;
  told = λ same. cc;
  is = record { is = subst (λ (j : Job). IsContactFault loops j.step TooMany) job_is (subst (λ d. IsContactFault d job.step TooMany) drawing_is is); told = λ same. cc };
  refuses = record { refused = refl; line = refl };
})
uncontacted loops drawing job Memory drawing_is job_is is = tt

-- ---- its program

module _ (loops : List (List GridPoint)) (job : Job) (plan : List (List GridNode)) (uncut : UncutPoints) (code : List ℕ) (job_is : job ≡ trial_job)
    (program : IsProgramOf job trial_pitch trial_pocket loops plan uncut code) where
  trial_program : IsProgramOf trial_job trial_pitch trial_pocket loops plan uncut code
  trial_program = subst (λ j. IsProgramOf j trial_pitch trial_pocket loops plan uncut code) job_is program

  pub plan_fits : AreWithinLimits plan
  plan_fits = plan_within loops job.bit job.limit job.step trial_pocket plan program.is

  pub program_fit : (moves : List LineMove) → moves_of job.units code ≡ Ok moves → IsFit (edges_of loops) job.bit moves
  program_fit moves read =
      let some : 1 ≤ job.bit.sn = subst (λ (j : Job). 1 ≤ j.bit.sn) (sym job_is) (omega arith) in
      let same = one_reading (moves_of job.units code) program.good.moves moves program.good.read read in
      subst (IsFit (edges_of loops) job.bit) same ((verdict_is_true loops job.bit program.good.moves Clear some program.good.carves.clear).exact.0 refl)

  -- its numbers
  pub summarized : (count : ℕ) (contacts : List Contact) (listed_of : List (List GridPoint)) (moves : List LineMove) (number many : ℕ) (field : List (List GridPoint)) (summary : Summary)
      → listed_of ≡ loops → AreContacts listed_of job.step contacts → moves_of job.units code ≡ Ok moves → number ≡ length moves → many ≡ length contacts → field ≡ loops
      → summary ≡ summary_of count field many plan number uncut → IsSummary count loops summary
  summarized count contacts listed_of moves number many field summary listed_is listed read counted many_is field_is is =
      let of_trial = trial_program in
      let same = one_reading (moves_of trial_job.units code) moves of_trial.good.moves (subst (λ (j : Job). moves_of j.units code ≡ Ok moves) job_is read) of_trial.good.read in
      record {
        contacts = contacts;
        listed = subst (λ (j : Job). AreContacts loops j.step contacts) job_is (subst (λ d. AreContacts d job.step contacts) listed_is listed);
        plan = plan;
        uncut = uncut;
        code = code;
        program = of_trial;
        is = is ∙ ap (λ d. summary_of count d many plan number uncut) field_is ∙ ap (λ n. summary_of count loops n plan number uncut) many_is
            ∙ ap (λ n. summary_of count loops (length contacts) plan n uncut) (counted ∙ ap length same);
      }

-- ---- its refusals

-- the refusal of a field's plan or report is what is due
pub untried_is_reported : {A : Type 0} (count : ℕ) (loops : List (List GridPoint)) (r : Result (Vec ℕ A) Refusal) (refusal : Refusal) → IsErr r → IsErrAnd r (λ given. given ≡ refusal)
    → loops ≡ trial_loops count → IfAnswered (outcome_of refusal) (IsUntried loops (outcome_of refusal) (line_of (outcome_of refusal))) → IsReported (IsDueOfTrial count) r
untried_is_reported count loops r refusal fails is loops_are untried =
    refused_is_answered (λ text. IsDueOfTrial count Done text.items) (IsDueOfTrial count) r refusal fails is
    (IfAnswered-weaker (outcome_of refusal) (λ due. inr (subst (λ d. IsUntried d (outcome_of refusal) (line_of (outcome_of refusal))) loops_are due)) untried)
