-- Judging a text in order: the value, or the first fault.
use Rattle.std.specs.Prelude.{Result, Ok, Err}

-- what comes after a value, or the fault that came before it
abbrev pub and_then : {A B E : Type 0} → Result A E → (A → Result B E) → Result B E
and_then (Ok x) next = next x
and_then (Err e) next = Err e
