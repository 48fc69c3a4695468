-- A program read a byte at a time: what each byte reports, and the state behind it.
use Rattle.std.specs.Prelude.{⊤, ◌≡◌, ℕ, ◌+◌, Bool, true, false, not, ◌||◌, if◌then◌else◌, Option, Some, None, List, [], ◌∷◌, ◌++◌, length, is_some, nat_lt, ◌==◌, Result, Ok, Err}
use Rattle.grid_num.specs.Judging.{and_then}
use Rattle.grid_num.specs.declared.units.Units.{Units}
use Rattle.plane_exact.specs.declared.moves.LineMove.{LineMove}
use Rattle.text_lines.specs.Pieces.{without_return}
use Rattle.gcode_text.specs.Moves.{and_later, in_line, judge_move, line_block, moved, nowhere}
use Rattle.gcode_text.specs.declared.block.Block.{Block}
use Rattle.gcode_text.specs.declared.fault.CodeFault.{CodeFault}
use Rattle.gcode_text.specs.declared.fault.CodeKind.{CodeKind}
use Rattle.gcode_text.specs.declared.fault.CodeKind.TheVariants as kind
use Rattle.gcode_text.specs.declared.line.TheConstants.{LINE_ROOM}
use Rattle.gcode_text.specs.declared.state.Phase.{Phase}
use Rattle.gcode_text.specs.declared.state.Phase.TheVariants as phase
use Rattle.gcode_text.specs.declared.state.State.{State}
use Rattle.gcode_text.specs.declared.state.Turn.{Turn}
use Rattle.gcode_text.specs.declared.state.Turn.TheVariants as turn

-- before the first byte
abbrev pub start_of : Units → State
start_of units = record { units = units; line = 1; moves = 0; position = nowhere; bytes = record { items = [] }; is_long = false; phase = phase.Open; fed = 0 }

-- one more byte of the line; where there is no room for it, the line is too long
abbrev pub with_byte : State → ℕ → State
with_byte s byte =
    let fits = nat_lt (length s.bytes.items) LINE_ROOM in
    record s { bytes = record { items = if fits then s.bytes.items ++ byte ∷ [] else s.bytes.items }; is_long = not fits || s.is_long }

-- the block of a line of these bytes
abbrev pub block_of : Units → (is_long : Bool) → List ℕ → Result Block CodeKind
block_of units true bytes = Err kind.LongLine
block_of units false bytes = line_block units (without_return bytes)

-- the block of the line that ends here and its move, or its fault
abbrev pub ended_line : State → Result (Block × Option LineMove) CodeFault
ended_line s =
    in_line s.line (and_then (block_of s.units s.is_long s.bytes.items) (λ block. and_then (judge_move s.line s.moves s.position block) (λ mv. Ok (block, mv))))

-- behind a line of this block, with a move or without
abbrev pub behind_block : State → Block → (has_move : Bool) → State
behind_block s block has_move =
    record s { line = s.line + 1; moves = if has_move then s.moves + 1 else s.moves; position = moved s.position block; bytes = record { items = [] }; is_long = false; phase = if block.last then phase.Ended else s.phase }

-- before the next line
abbrev pub behind_line : State → Result (Block × Option LineMove) CodeFault → State
behind_line s (Ok (block, mv)) = behind_block s block (is_some mv)
behind_line s (Err fault) = record s { phase = phase.Broken fault }

-- the move of a line, or its fault
abbrev pub move_of_line : Result (Block × Option LineMove) CodeFault → Result (Option LineMove) CodeFault
move_of_line (Ok (block, mv)) = Ok mv
move_of_line (Err fault) = Err fault

-- what a line reports
abbrev pub turn_by : Result (Option LineMove) CodeFault → Turn
turn_by (Ok None) = turn.Nothing
turn_by (Ok (Some mv)) = turn.Moved mv
turn_by (Err fault) = turn.Failed fault

-- what the byte reports in a phase: nothing behind the program's end, or behind a fault
abbrev pub turn_in : Phase → State → ℕ → Turn
turn_in phase.Open s byte = if byte == 10 then turn_by (move_of_line (ended_line s)) else turn.Nothing
turn_in phase.Ended s byte = turn.Nothing
turn_in (phase.Broken fault) s byte = turn.Nothing

-- what the byte reports: the move or the fault of the line that it closes, a line feed (10) being the byte that does
abbrev pub turn_of : State → ℕ → Turn
turn_of s byte = turn_in s.phase s byte

-- behind the byte in a phase: nothing changes behind the program's end, or behind a fault
abbrev pub next_in : Phase → State → ℕ → State
next_in phase.Open s byte = if byte == 10 then behind_line s (ended_line s) else with_byte s byte
next_in phase.Ended s byte = s
next_in (phase.Broken fault) s byte = s

-- behind the byte
abbrev pub next : State → ℕ → State
next s byte = next_in s.phase (record s { fed = s.fed + 1 }) byte

-- behind the bytes
abbrev pub after : State → List ℕ → State
after s [] = s
after s (byte ∷ bytes) = after (next s byte) bytes

-- the last line in a phase: none behind the program's end, and the fault behind a fault
abbrev pub last_in : Phase → State → Result (Option LineMove) CodeFault
last_in phase.Open s = move_of_line (ended_line s)
last_in phase.Ended s = Ok None
last_in (phase.Broken fault) s = Err fault

-- where the text ends: the move of its last line, which no line feed has closed; or the first fault of all lines
abbrev pub last_move : State → Result (Option LineMove) CodeFault
last_move s = last_in s.phase s

-- the move that a byte reports, if it does, and the later ones
abbrev pub and_turn : Turn → List LineMove → List LineMove
and_turn turn.Nothing later = later
and_turn (turn.Moved mv) later = mv ∷ later
and_turn (turn.Failed fault) later = later

-- the moves that the bytes report
abbrev pub moves_reported : State → List ℕ → List LineMove
moves_reported s [] = []
moves_reported s (byte ∷ bytes) = and_turn (turn_of s byte) (moves_reported (next s byte) bytes)

-- the state is the one behind these bytes
abbrev pub IsAfter : List ℕ → State → Type 0
IsAfter bytes s = s ≡ after (start_of s.units) bytes

-- the moves that were reported, and the last one; or the first fault
abbrev pub moves_at_end : List LineMove → Result (Option LineMove) CodeFault → Result (List LineMove) CodeFault
moves_at_end reported last = and_then last (λ mv. Ok (reported ++ and_later mv []))

-- a fact of the move that a byte reports, where it reports one
abbrev pub IfMoved : Turn → (LineMove → Type 0) → Type 0
IfMoved turn.Nothing P = ⊤
IfMoved (turn.Moved mv) P = P mv
IfMoved (turn.Failed fault) P = ⊤

-- a fact of the fault that a byte reports, where it reports one
abbrev pub IfFailed : Turn → (CodeFault → Type 0) → Type 0
IfFailed turn.Nothing P = ⊤
IfFailed (turn.Moved mv) P = ⊤
IfFailed (turn.Failed fault) P = P fault
