-- From what a reply is, and how much of its text was written, to what the top call promises.
use Rattle.std.specs.Prelude.{◌≡◌, ◌⊎◌, ℕ, Option, Some, None, List, IfSome}
use Rattle.std.proofs.Common.{sym, subst, refl, inl, inr}
use Rattle.shop_port.specs.Counts.{Rose}
use Rattle.shop_port.specs.Output.{Appended, AppendedPart}
use Rattle.engrave_core.specs.Due.{IsDue}
use Rattle.engrave_core.specs.Line.{line_of}
use Rattle.engrave_core.specs.Outcome.{IfAnswered, IfRefused, HasText}
use Rattle.engrave_core.specs.Stored.{IsCaused}
use Rattle.engrave_core.specs.Top.{WritesDue, WritesPart, WritesPartOfReadFault}
use Rattle.engrave_core.specs.declared.outcome.Outcome.{Outcome}
use Rattle.engrave_core.specs.declared.outcome.Outcome.TheVariants.{Done, NotClear, Usage, Input, Absent, ReadFault, WriteFault, Memory}

pub IfSome-map : {A : Type 0} (o : Option A) {P Q : A → Type 0} → ((x : A) → P x → Q x) → IfSome o P → IfSome o Q
IfSome-map None f h = h
IfSome-map (Some x) f h = f x h

-- a write changes no cause of a file's fault
pub caused_after : (a b m n : ℕ) (outcome result : Outcome) → (result ≡ outcome) ⊎ (result ≡ WriteFault)
    → IsCaused a b m n outcome → IsCaused a b m n result
caused_after a b m n outcome result (inl same) caused = subst (IsCaused a b m n) (sym same) caused
caused_after a b m n outcome result (inr cut) caused =
    subst (IsCaused a b m n) (sym cut) (record { read_fault = λ other. cc; absent = tt })

module _ (words : List (List ℕ)) (files : List ℕ → Option (List ℕ)) (text : List ℕ) (old new : Option (List ℕ)) (a b m n : ℕ) where
  -- what was written before the output failed
  pub part_of_due : (outcome : Outcome) → HasText outcome → IfAnswered outcome (IsDue words files outcome text)
      → IfRefused outcome (text ≡ line_of outcome) → IsCaused a b m n outcome → AppendedPart old new text
      → WritesPart words files old new ⊎ WritesPartOfReadFault old new a b
  part_of_due Done has due line caused part = inl (record { outcome = Done; text = text; due = due; part = part })
  part_of_due (NotClear verdict) has due line caused part = inl (record { outcome = NotClear verdict; text = text; due = due; part = part })
  part_of_due Usage has due line caused part = inl (record { outcome = Usage; text = text; due = due; part = part })
  part_of_due (Input fault) has due line caused part = inl (record { outcome = Input fault; text = text; due = due; part = part })
  part_of_due (Absent which) has due line caused part = inl (record { outcome = Absent which; text = text; due = due; part = part })
  part_of_due ReadFault has due line caused part =
      inr (record { part = subst (AppendedPart old new) line part; cause = caused.read_fault refl })
  part_of_due WriteFault has due line caused part = absurd has
  part_of_due Memory has due line caused part = absurd has

  -- where no file failed, a whole text that was written is due
  pub whole_is_due : (outcome : Outcome) → HasText outcome → IfAnswered outcome (IsDue words files outcome text)
      → IsCaused a b m n outcome → ¬ Rose a b → Appended old new text → WritesDue words files outcome old new
  whole_is_due Done has due caused calm appended = record { text = text; due = due; appended = appended }
  whole_is_due (NotClear verdict) has due caused calm appended = record { text = text; due = due; appended = appended }
  whole_is_due Usage has due caused calm appended = record { text = text; due = due; appended = appended }
  whole_is_due (Input fault) has due caused calm appended = record { text = text; due = due; appended = appended }
  whole_is_due (Absent which) has due caused calm appended = record { text = text; due = due; appended = appended }
  whole_is_due ReadFault has due caused calm appended = absurd (calm (caused.read_fault refl))
  whole_is_due WriteFault has due caused calm appended = absurd has
  whole_is_due Memory has due caused calm appended = absurd has

  -- where nothing failed, the outcome is due
  pub completes : (outcome result : Outcome) (c d : ℕ) → HasText outcome → IfAnswered outcome (IsDue words files outcome text)
      → IsCaused a b m n outcome → (result ≡ outcome) ⊎ (result ≡ WriteFault)
      → (result ≡ outcome → Appended old new text) → (result ≡ WriteFault → Rose c d)
      → ¬ Rose a b → ¬ Rose c d → WritesDue words files result old new
  completes outcome result c d has due caused (inl same) appended failed calm steady =
      subst (λ o. WritesDue words files o old new) (sym same) (whole_is_due outcome has due caused calm (appended same))
  completes outcome result c d has due caused (inr cut) appended failed calm steady = absurd (steady (failed cut))
