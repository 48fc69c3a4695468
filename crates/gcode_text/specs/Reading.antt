-- What a reader of a program stands for, and what its answer says.
use Rattle.std.specs.Prelude.{◌≡◌, ℕ, Bool, List, Result, Err}
use Rattle.grid_num.specs.declared.units.Units.{Units}
use Rattle.plane_exact.specs.declared.moves.LineMove.{LineMove}
use Rattle.gcode_text.specs.Stepping.{after, moves_reported, start_of}
use Rattle.gcode_text.specs.declared.fault.CodeFault.{CodeFault}
use Rattle.gcode_text.specs.declared.fault.FinishFault.{FinishFault}
use Rattle.gcode_text.specs.declared.fault.FinishFault.TheVariants.{Code, Memory}
use Rattle.gcode_text.specs.declared.state.State.{State}

-- how far a reader has come: its units, the state of its stepper, the moves so far, and whether one was lost for memory
pub record Progress : Type 0 where
  pub units : Units
  pub state : State
  pub moves : List LineMove
  pub is_lost : Bool

-- the reader is where these bytes lead, however they were cut
pub record StandsFor (bytes : List ℕ) (reader : Progress) : Type 0 where
  pub state : reader.state ≡ after (start_of reader.units) bytes
  pub moves : reader.moves ≡ moves_reported (start_of reader.units) bytes

-- a fault of the program is the one that it has; running out of memory says nothing of the program
abbrev pub HasFault : FinishFault → Result (List LineMove) CodeFault → Type 0
HasFault (Code fault) moves = moves ≡ Err fault
HasFault Memory moves = Unit {0}
