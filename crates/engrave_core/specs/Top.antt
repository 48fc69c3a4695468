-- What the top call promises of what it writes.
use Rattle.std.specs.Prelude.{ℕ, Option, List, codes}
use Rattle.shop_port.specs.Counts.{Rose}
use Rattle.shop_port.specs.Output.{Appended, AppendedPart}
use Rattle.engrave_core.specs.Due.{IsDue}
use Rattle.engrave_core.specs.Stored.{Files}
use Rattle.engrave_core.specs.declared.outcome.Outcome.{Outcome}

-- the outcome is due, and the text that is due with it was written
pub record WritesDue (words : List (List ℕ)) (files : Files) (outcome : Outcome) (old new : Option (List ℕ)) : Type 0 where
  pub text : List ℕ
  pub due : IsDue words files outcome text
  pub appended : Appended old new text

-- the text that is due was written in part
pub record WritesPart (words : List (List ℕ)) (files : Files) (old new : Option (List ℕ)) : Type 0 where
  pub outcome : Outcome
  pub text : List ℕ
  pub due : IsDue words files outcome text
  pub part : AppendedPart old new text

-- the line of a read fault was written in part, and a file couldn't be read
pub record WritesPartOfReadFault (old new : Option (List ℕ)) (faults_before faults_now : ℕ) : Type 0 where
  pub part : AppendedPart old new (codes "read fault\n")
  pub cause : Rose faults_before faults_now

-- a text was written of which this is so
pub record Writes (IsSo : List ℕ → Type 0) (old new : Option (List ℕ)) : Type 0 where
  pub text : List ℕ
  pub so : IsSo text
  pub appended : Appended old new text
