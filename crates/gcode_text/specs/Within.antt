-- The bounds that keep a stepper's counts in their types.
use Rattle.std.specs.Prelude.{◌+◌, ◌≤◌}
use Rattle.gcode_text.specs.declared.state.State.{State}
use Rattle.gcode_text.specs.declared.state.TheConstants.{MOST_CODE_BYTES}

-- each line, and each move, takes a byte
pub record IsWithin (s : State) : Type 0 where
  pub line : s.line ≤ s.fed + 1
  pub moves : s.moves ≤ s.fed
  pub fed : s.fed ≤ MOST_CODE_BYTES
