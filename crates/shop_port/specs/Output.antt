-- What was written to an output, None where that isn't known.
use Rattle.std.specs.Prelude.{◌≡◌, ◌<◌, ◌+◌, nat_le, if◌then◌else◌, ℕ, List, ◌++◌, length, take, Option, None, Some}

-- The bytes were added at the end. What was written may cease to be known, and then isn't known again.
abbrev pub Appended : Option (List ℕ) → Option (List ℕ) → List ℕ → Type 0
Appended (Some old) (Some new) bytes = new ≡ old ++ bytes
Appended None (Some new) bytes = ⊥
Appended old None bytes = Unit {0}

-- bytes were added from the front on, but not all; it may be none
pub record AppendedPart (old new : Option (List ℕ)) (bytes : List ℕ) : Type 0 where
  pub count : ℕ
  pub part : count < length bytes
  pub appended : Appended old new (take count bytes)

-- What was written to a sink with a room is known as long as all of it fits there, and then no more.
abbrev pub IsKnownWithin : ℕ → Option (List ℕ) → Option (List ℕ) → List ℕ → Type 0
IsKnownWithin room None new bytes = new ≡ None
IsKnownWithin room (Some old) new bytes = new ≡ (if nat_le (length old + length bytes) room then Some (old ++ bytes) else None)
