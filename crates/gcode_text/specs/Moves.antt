-- The moves of a text: its lines up to the first with M2 or M30, and the first fault where one has a fault.
use Rattle.std.specs.Prelude.{ℕ, ◌+◌, Bool, false, not, ◌&&◌, ◌||◌, if◌then◌else◌, Option, Some, None, List, [], ◌∷◌, length, is_some, ℤ, pos, int_lt, nat_lt, nat_le, ◌==◌, Result, Ok, Err}
use Rattle.grid_num.specs.Judging.{and_then}
use Rattle.text_lines.specs.Pieces.{Piece, lines_of}
use Rattle.grid_num.specs.declared.units.Units.{Units}
use Rattle.plane_exact.specs.Heights.{GridPlace}
use Rattle.plane_exact.specs.declared.moves.LineMove.{LineMove}
use Rattle.gcode_text.specs.Grammar.{empty_block, judge_words, line_words, outside_comments}
use Rattle.gcode_text.specs.declared.block.Block.{Block}
use Rattle.gcode_text.specs.declared.line.TheConstants.{MOST_LINE_BYTES}
use Rattle.gcode_text.specs.declared.modal.Position.{Position}
use Rattle.gcode_text.specs.declared.modal.TheConstants.{MOST_MOVES}
use Rattle.gcode_text.specs.declared.fault.CodeFault.{CodeFault}
use Rattle.gcode_text.specs.declared.fault.CodeKind.{CodeKind}
use Rattle.gcode_text.specs.declared.fault.CodeKind.TheVariants as kind

-- "%" (37) alone
abbrev pub is_percent : List ℕ → Bool
is_percent [] = false
is_percent (byte ∷ []) = byte == 37
is_percent (byte ∷ next ∷ rest) = false

-- the block of what stands outside comments, without words where that is empty or "%" alone
abbrev pub words_block : Units → Option (List ℕ) → Result Block CodeKind
words_block units None = Err kind.OpenComment
words_block units (Some outside) = if is_percent outside then Ok empty_block else judge_words units empty_block (line_words outside)

-- the block of a line, which may be too long
abbrev pub line_block : Units → List ℕ → Result Block CodeKind
line_block units line =
    if nat_lt MOST_LINE_BYTES (length line) then Err kind.LongLine else words_block units (outside_comments false line)

-- no coordinate is known
abbrev pub nowhere : Position
nowhere = record { x = None; y = None; z = None }

-- the new value, or else the old one
abbrev pub latest : Option ℤ → Option ℤ → Option ℤ
latest old None = old
latest old (Some new) = Some new

-- after the line's coordinates
abbrev pub moved : Position → Block → Position
moved old block = record { x = latest old.x block.x; y = latest old.y block.y; z = latest old.z block.z }

-- the spot of these coordinates, where each is known
abbrev pub spot_from : Option ℤ → Option ℤ → Option ℤ → Option GridPlace
spot_from (Some x) (Some y) (Some z) = Some (record { at = record { x = x; y = y }; h = z })
spot_from _ _ _ = None

-- the spot, where every coordinate is known
abbrev pub spot_of : Position → Option GridPlace
spot_of position = spot_from position.x position.y position.z

-- some word is a coordinate
abbrev pub names_place : Block → Bool
names_place block = is_some block.x || is_some block.y || is_some block.z

-- the move from one spot to the other, where both are known
abbrev pub move_between : ℕ → Option GridPlace → Option GridPlace → Option LineMove
move_between line (Some from) (Some to) = Some (record { line = line; mv = record { from = from; to = to } })
move_between line _ _ = None

-- the line's move, if its words name a coordinate and all were known before it
abbrev pub move_of : ℕ → Position → Block → Option LineMove
move_of line old block = if names_place block then move_between line (spot_of old) (spot_of (moved old block)) else None

-- a height that is known and below the surface
abbrev pub is_below : Option ℤ → Bool
is_below None = false
is_below (Some z) = int_lt z (pos 0)

-- the line's move after so many earlier ones, of which there may be no more than the most: the bit may not be below the
-- surface before its place was known
abbrev pub judge_move : ℕ → ℕ → Position → Block → Result (Option LineMove) CodeKind
judge_move line count old block =
    if is_below (moved old block).z && not (is_some (spot_of old)) then Err kind.Unplaced
    else if names_place block && is_some (spot_of old) && nat_le MOST_MOVES count then Err kind.TooMany
    else Ok (move_of line old block)

-- the block of a line, and its move
abbrev pub judge_line : Units → ℕ → ℕ → Position → List ℕ → Result (Block × Option LineMove) CodeKind
judge_line units line count old text =
    and_then (line_block units text) (λ block. and_then (judge_move line count old block) (λ mv. Ok (block, mv)))

-- the move, if there is one, and then those of the later lines
abbrev pub and_later : Option LineMove → List LineMove → List LineMove
and_later None later = later
and_later (Some mv) later = mv ∷ later

-- the fault of a line
abbrev pub in_line : {A : Type 0} → ℕ → Result A CodeKind → Result A CodeFault
in_line line (Ok x) = Ok x
in_line line (Err kind) = Err (record { line = line; kind = kind })

-- the moves of the lines from the given number on, after so many earlier moves
abbrev pub moves_from : Units → ℕ → ℕ → Position → List Piece → Result (List LineMove) CodeFault
moves_from units line count old [] = Ok []
moves_from units line count old (text ∷ lines) =
    and_then (in_line line (judge_line units line count old text.bytes))
    (λ (block, mv).
    if block.last then Ok (and_later mv [])
    else and_then (moves_from units (line + 1) (if is_some mv then count + 1 else count) (moved old block) lines)
    (λ later. Ok (and_later mv later)))

-- the moves of a text, or its first fault
abbrev pub moves_of : Units → List ℕ → Result (List LineMove) CodeFault
moves_of units text = moves_from units 1 0 nowhere (lines_of text)
