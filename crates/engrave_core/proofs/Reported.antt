-- Results that are reported as due, where what is due follows from something else.
use Rattle.std.specs.Prelude.{ℕ, List, Result, Ok, Err, Vec}
use Rattle.engrave_core.specs.Given.{IsReported}
use Rattle.engrave_core.specs.Line.{line_of}
use Rattle.engrave_core.specs.Outcome.{IfAnswered, outcome_of}
use Rattle.engrave_core.specs.declared.outcome.Outcome.{Outcome}
use Rattle.engrave_core.specs.declared.outcome.Outcome.TheVariants as outcome
use Rattle.engrave_core.specs.declared.refusal.Refusal.{Refusal}

pub IfAnswered-weaker : {P Q : Type 0} (outcome : Outcome) → (P → Q) → IfAnswered outcome P → IfAnswered outcome Q
IfAnswered-weaker outcome.Done weaker is = weaker is
IfAnswered-weaker (outcome.NotClear verdict) weaker is = weaker is
IfAnswered-weaker outcome.Usage weaker is = weaker is
IfAnswered-weaker (outcome.Input fault) weaker is = weaker is
IfAnswered-weaker (outcome.Absent which) weaker is = weaker is
IfAnswered-weaker outcome.ReadFault weaker is = tt
IfAnswered-weaker outcome.WriteFault weaker is = tt
IfAnswered-weaker outcome.Memory weaker is = tt

pub IsReported-weaker : {A : Type 0} {Due Other : Outcome → List ℕ → Type 0} (r : Result (Vec ℕ A) Refusal)
    → ((outcome : Outcome) (text : List ℕ) → Due outcome text → Other outcome text) → IsReported Due r → IsReported Other r
IsReported-weaker (Ok text) weaker is = weaker outcome.Done text.items is
IsReported-weaker (Err refusal) weaker is = IfAnswered-weaker (outcome_of refusal) (weaker (outcome_of refusal) (line_of (outcome_of refusal))) is
