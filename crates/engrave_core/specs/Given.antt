-- What is due where a value is needed that may be refused, and when a result is reported as due.
use Rattle.std.specs.Prelude.{◌≡◌, ℕ, List, Result, Ok, Err, MatchResult, Vec}
use Rattle.plane_exact.specs.Cone.{Cone}
use Rattle.engrave_core.specs.Line.{line_of}
use Rattle.engrave_core.specs.Outcome.{IfAnswered, outcome_of}
use Rattle.engrave_core.specs.declared.outcome.Outcome.{Outcome}
use Rattle.engrave_core.specs.declared.outcome.Outcome.TheVariants.{Done}
use Rattle.engrave_core.specs.declared.refusal.Refusal.{Refusal}

-- a refusal and its line
pub record Refuses (refusal : Refusal) (outcome : Outcome) (text : List ℕ) : Type 0 where
  pub refused : outcome ≡ outcome_of refusal
  pub line : text ≡ line_of (outcome_of refusal)

-- what the value gives, or else the refusal
abbrev pub IsGivenBy : {A : Type 0} → (A → Outcome → List ℕ → Type 0) → Result A Refusal → Outcome → List ℕ → Type 0
IsGivenBy Gives (Ok x) outcome text = Gives x outcome text
IsGivenBy Gives (Err refusal) outcome text = Refuses refusal outcome text

-- a result is reported as due: its text with `Done`, or the refusal, where it was answered, with its line
abbrev pub IsReported : {A : Type 0} → (Outcome → List ℕ → Type 0) → Result (Vec ℕ A) Refusal → Type 0
IsReported Due result =
    MatchResult result
    (λ text. Due Done text.items)
    (λ refusal. IfAnswered (outcome_of refusal) (Due (outcome_of refusal) (line_of (outcome_of refusal))))

-- the bit of a slope and its greatest radius
abbrev pub cone_of : ℕ × ℕ → ℕ → Cone
cone_of (sn, sd) rmax = record { sn = sn; sd = sd; rmax = rmax }
