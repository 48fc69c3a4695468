-- Exit statuses, the outcomes of refusals, and which outcomes answer what was asked.
use Rattle.std.specs.Prelude.{ℕ}
use Rattle.engrave_core.specs.declared.outcome.Outcome.{Outcome}
use Rattle.engrave_core.specs.declared.outcome.Outcome.TheVariants.{Done, NotClear, Usage, Input, Absent, ReadFault, WriteFault, Memory}
use Rattle.engrave_core.specs.declared.refusal.Refusal.{Refusal}
use Rattle.engrave_core.specs.declared.refusal.Refusal.TheVariants as refusal

-- the exit status that reports the outcome
abbrev pub status_of : Outcome → ℕ
status_of Done = 0
status_of (NotClear verdict) = 1
status_of Usage = 2
status_of (Input fault) = 3
status_of (Absent which) = 4
status_of ReadFault = 5
status_of WriteFault = 6
status_of Memory = 7

-- the outcome that reports a refusal
abbrev pub outcome_of : Refusal → Outcome
outcome_of (refusal.NotClear verdict) = NotClear verdict
outcome_of refusal.Usage = Usage
outcome_of (refusal.Input fault) = Input fault
outcome_of (refusal.Absent which) = Absent which
outcome_of refusal.ReadFault = ReadFault
outcome_of refusal.Memory = Memory

-- P where the words and the files decided the outcome, and neither a fault of the outside nor running out of memory did
abbrev pub IfAnswered : Outcome → Type 0 → Type 0
IfAnswered Done P = P
IfAnswered (NotClear verdict) P = P
IfAnswered Usage P = P
IfAnswered (Input fault) P = P
IfAnswered (Absent which) P = P
IfAnswered ReadFault P = Unit {0}
IfAnswered WriteFault P = Unit {0}
IfAnswered Memory P = Unit {0}

-- P where the outcome refuses with a line of its own
abbrev pub IfRefused : Outcome → Type 0 → Type 0
IfRefused Done P = Unit {0}
IfRefused (NotClear verdict) P = P
IfRefused Usage P = P
IfRefused (Input fault) P = P
IfRefused (Absent which) P = P
IfRefused ReadFault P = P
IfRefused WriteFault P = Unit {0}
IfRefused Memory P = Unit {0}

-- P where a file is absent
abbrev pub IfAbsent : Outcome → Type 0 → Type 0
IfAbsent Done P = Unit {0}
IfAbsent (NotClear verdict) P = Unit {0}
IfAbsent Usage P = Unit {0}
IfAbsent (Input fault) P = Unit {0}
IfAbsent (Absent which) P = P
IfAbsent ReadFault P = Unit {0}
IfAbsent WriteFault P = Unit {0}
IfAbsent Memory P = Unit {0}

-- a text was made for the outcome
abbrev pub HasText : Outcome → Type 0
HasText WriteFault = ⊥
HasText Memory = ⊥
HasText outcome = Unit {0}
