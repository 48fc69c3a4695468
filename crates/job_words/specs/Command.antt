-- A command: its name, its options, and the request that their values make.
use Rattle.std.specs.Prelude.{ℕ, Bool, true, false, Option, List}
use Rattle.job_words.specs.Options.{OptionRow}
use Rattle.job_words.specs.declared.request.Request.{Request}

-- The request of the values, which are given by the options' names: None where one that is required is missing, one
-- that is given isn't in its form and range, or they don't fit together. That they fit says what the command asks of them beyond the
-- form and range that an option of the name has for every command.
pub record Command : Type 0 where
  pub name : List ℕ
  pub options : List OptionRow
  pub request : (List ℕ → Option (List ℕ)) → Option Request
  pub fits : (List ℕ → Option (List ℕ)) → Bool

-- nothing more is asked of the values
abbrev pub always_fits : (List ℕ → Option (List ℕ)) → Bool
always_fits value = true

-- an option that is required
abbrev pub needed : List ℕ → OptionRow
needed name = record { name = name; required = true }

-- an option that may be left out
abbrev pub optional : List ℕ → OptionRow
optional name = record { name = name; required = false }
