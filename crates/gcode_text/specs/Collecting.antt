-- The moves that a reader has collected, and those of the bytes that are still to come.
use Rattle.std.specs.Prelude.{◌≡◌, ℕ, List, ◌++◌, Result}
use Rattle.plane_exact.specs.declared.moves.LineMove.{LineMove}
use Rattle.gcode_text.specs.Stepping.{after, last_move, moves_at_end, moves_reported}
use Rattle.gcode_text.specs.declared.fault.CodeFault.{CodeFault}
use Rattle.gcode_text.specs.declared.reader.Collected.{Collected}

-- what `old` is where these bytes come, `new` is where the rest of them comes
pub record Continues (old : Collected) (bytes : List ℕ) (new : Collected) (rest : List ℕ) : Type 0 where
  pub state : after old.stepper bytes ≡ after new.stepper rest
  pub moves : old.moves.items ++ moves_reported old.stepper bytes ≡ new.moves.items ++ moves_reported new.stepper rest

-- the moves where no byte comes any more, or the first fault
abbrev pub collected_moves : Collected → Result (List LineMove) CodeFault
collected_moves c = moves_at_end c.moves.items (last_move c.stepper)
