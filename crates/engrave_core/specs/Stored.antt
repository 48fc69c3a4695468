-- What the stored files of a command give: bytes, the moves of a G-code program, or the refusal.
use Rattle.std.specs.Prelude.{◌≡◌, ◌≤◌, ℕ, Option, List, Result, Ok, Err, IfErr, IfSome, MatchResult}
use Rattle.gcode_text.specs.Moves.{moves_of}
use Rattle.grid_num.specs.Judging.{and_then}
use Rattle.grid_num.specs.declared.units.Units.{Units}
use Rattle.gcode_text.specs.declared.state.TheConstants.{MOST_CODE_BYTES}
use Rattle.plane_exact.specs.declared.moves.LineMove.{LineMove}
use Rattle.shop_port.specs.Counts.{Rose}
use Rattle.shop_port.specs.Loading.{file_within}
use Rattle.engrave_core.specs.Outcome.{IfAbsent, IfAnswered, outcome_of}
use Rattle.engrave_core.specs.Refusals.{file_refusal}
use Rattle.engrave_core.specs.declared.outcome.InputFault.TheVariants.{Code as CodeOf}
use Rattle.engrave_core.specs.declared.outcome.Outcome.{Outcome}
use Rattle.engrave_core.specs.declared.outcome.Outcome.TheVariants.{ReadFault}
use Rattle.engrave_core.specs.declared.outcome.Which.{Which}
use Rattle.engrave_core.specs.declared.outcome.Which.TheVariants.{Code}
use Rattle.engrave_core.specs.declared.refusal.Refusal.{Refusal}
use Rattle.engrave_core.specs.declared.refusal.Refusal.TheVariants.{Input}

-- the bytes of each name, None where there is no such file
abbrev pub Files : Type 0
Files = List ℕ → Option (List ℕ)

-- a value, or the refusal that reports the fault
abbrev pub or_refused : {A E : Type 0} → (E → Refusal) → Result A E → Result A Refusal
or_refused refusal (Ok x) = Ok x
or_refused refusal (Err fault) = Err (refusal fault)

-- the bytes of a file of at most so many bytes, or the refusal
abbrev pub bytes_of : Which → ℕ → Option (List ℕ) → Result (List ℕ) Refusal
bytes_of which cap file = or_refused (file_refusal which) (file_within cap file)

-- the moves of a text, or the refusal
unfoldable pub code_of : Units → List ℕ → Result (List LineMove) Refusal
code_of units text = or_refused (λ fault. Input (CodeOf fault)) (moves_of units text)

-- the moves that the stored file of this name asks for, or the refusal
unfoldable pub stored_code : Files → Units → List ℕ → Result (List LineMove) Refusal
stored_code files units name = and_then (bytes_of Code MOST_CODE_BYTES (files name)) (code_of units)

-- a result of reading is the expected one: its value, or the refusal, where it was answered
abbrev pub IsReadAs : {A B : Type 0} → (A → B) → Result B Refusal → Result A Refusal → Type 0
IsReadAs value expected result =
    MatchResult result (λ x. expected ≡ Ok (value x)) (λ refusal. IfAnswered (outcome_of refusal) (expected ≡ Err refusal))

-- a fault of a file has its cause in the counts of the files' faults and misses
pub record IsCaused (faults_before faults_now misses_before misses_now : ℕ) (outcome : Outcome) : Type 0 where
  pub read_fault : outcome ≡ ReadFault → Rose faults_before faults_now
  pub absent : IfAbsent outcome (Rose misses_before misses_now)

-- what a call that reads files answers: where the depot says what it holds, what these files give; a fault of a file has
-- its cause in this call; the files stay as they were, and the counts don't fall
pub record AnswersFrom {D A : Type 0} (held : D → Option Files) (faults_of misses_of : D → ℕ) (old new : D)
    (Gives : Files → Result A Refusal → Type 0) (result : Result A Refusal) : Type 0 where
  pub value : IfSome (held old) (λ files. Gives files result)
  pub caused : IfErr result (λ refusal. IsCaused (faults_of old) (faults_of new) (misses_of old) (misses_of new) (outcome_of refusal))
  pub unchanged : held new ≡ held old
  pub faults : faults_of old ≤ faults_of new
  pub misses : misses_of old ≤ misses_of new
