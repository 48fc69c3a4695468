-- A command that reads no file answers from any files.
use Rattle.std.specs.Prelude.{ℕ, Option, Some, None, Result, Ok, Err, IfErr, IfSome}
use Rattle.std.proofs.Common.{arith, inl, inr, refl}
use Rattle.engrave_core.specs.Outcome.{outcome_of}
use Rattle.engrave_core.specs.Programs.{IsRefusalOfProgram}
use Rattle.engrave_core.specs.Stored.{AnswersFrom, Files, IsCaused}
use Rattle.engrave_core.specs.declared.outcome.Outcome.{Outcome}
use Rattle.engrave_core.specs.declared.outcome.Outcome.TheVariants.{Absent, Done, Input, Memory, NotClear, ReadFault, Usage, WriteFault}
use Rattle.engrave_core.specs.declared.refusal.Refusal.{Refusal}

-- the refusals of a program have no cause outside
uncaused : (faults misses : ℕ) (outcome : Outcome) → IsRefusalOfProgram outcome → IsCaused faults faults misses misses outcome
uncaused faults misses (Input fault) is = record { read_fault = λ same. cc; absent = tt }
uncaused faults misses Memory is = record { read_fault = λ same. cc; absent = tt }
uncaused faults misses Done (inl is) = absurd is
uncaused faults misses Done (inr is) = absurd is
uncaused faults misses (NotClear verdict) (inl is) = absurd is
uncaused faults misses (NotClear verdict) (inr is) = absurd is
uncaused faults misses Usage (inl is) = absurd is
uncaused faults misses Usage (inr is) = absurd is
uncaused faults misses (Absent which) (inl is) = absurd is
uncaused faults misses (Absent which) (inr is) = absurd is
uncaused faults misses ReadFault (inl is) = absurd is
uncaused faults misses ReadFault (inr is) = absurd is
uncaused faults misses WriteFault (inl is) = absurd is
uncaused faults misses WriteFault (inr is) = absurd is

uncaused_result : {A : Type 0} (faults misses : ℕ) (result : Result A Refusal) → IfErr result (λ refusal. IsRefusalOfProgram (outcome_of refusal))
    → IfErr result (λ refusal. IsCaused faults faults misses misses (outcome_of refusal))
uncaused_result faults misses (Ok x) is = tt
uncaused_result faults misses (Err refusal) is = uncaused faults misses (outcome_of refusal) is

whatever : (told : Option Files) (Gives : Type 0) → Gives → IfSome told (λ files. Gives)
whatever (Some files) Gives gives = gives
whatever None Gives gives = tt

pub answers_from_none : {D A : Type 0} (held : D → Option Files) (faults_of misses_of : D → ℕ) (depot : D) (Gives : Result A Refusal → Type 0) (result : Result A Refusal)
    → Gives result → IfErr result (λ refusal. IsRefusalOfProgram (outcome_of refusal)) → AnswersFrom held faults_of misses_of depot depot (λ files. Gives) result
answers_from_none held faults_of misses_of depot Gives result gives refusals = record {
  value = whatever (held depot) (Gives result) gives;
  caused = uncaused_result (faults_of depot) (misses_of depot) result refusals;
  unchanged = refl;
  faults = omega arith;
  misses = omega arith;
}
