-- The lines of a program that is written: notes and words, their text, and how their blocks are read.
use Rattle.std.specs.Prelude.{ℕ, ◌+◌, ◌≤◌, ◌&&◌, ◌≡◌, Bool, true, not, if◌then◌else◌, List, [], ◌∷◌, ◌++◌, length, flat_map, nat_le, ◌==◌, is_some, All, Result, Ok}
use Rattle.std.specs.List.{list_all}
use Rattle.grid_num.specs.Judging.{and_then}
use Rattle.grid_num.specs.declared.units.Units.{Units}
use Rattle.plane_exact.specs.declared.moves.LineMove.{LineMove}
use Rattle.gcode_text.specs.Grammar.{Word, empty_block, is_number_byte, judge_words}
use Rattle.gcode_text.specs.Moves.{and_later, in_line, judge_move, moved, moves_of, nowhere}
use Rattle.gcode_text.specs.declared.block.Block.{Block}
use Rattle.gcode_text.specs.declared.fault.CodeFault.{CodeFault}
use Rattle.gcode_text.specs.declared.fault.CodeKind.{CodeKind}
use Rattle.gcode_text.specs.declared.modal.Position.{Position}

-- a line: a note, which is a comment, or words
pub data WrittenLine : Type 0 where
  Note : List ℕ → WrittenLine
  Words : List Word → WrittenLine

-- a letter and its number
abbrev pub word_text : Word → List ℕ
word_text word = word.letter ∷ word.number

-- words with a space (32) between them
abbrev pub words_text : List Word → List ℕ
words_text [] = []
words_text (word ∷ words) = word_text word ++ flat_map (λ next. 32 ∷ word_text next) words

-- a note stands between '(' (40) and ')' (41)
abbrev pub line_text : WrittenLine → List ℕ
line_text (Note note) = 40 ∷ (note ++ 41 ∷ [])
line_text (Words words) = words_text words

-- each line ends with a line feed (10)
abbrev pub code_text : List WrittenLine → List ℕ
code_text lines = flat_map (λ line. line_text line ++ 10 ∷ []) lines

-- ---- which lines are read as they were meant

-- no control character, and no ')'
abbrev pub is_note_byte : ℕ → Bool
is_note_byte byte = nat_le 32 byte && not (byte == 41)

-- a note that is read as one
pub record IsNote (note : List ℕ) : Type 0 where
  pub bytes : list_all is_note_byte note ≡ true
  pub short : length note ≤ 1000

-- a capital and the characters of a number
pub record IsWord (word : Word) : Type 0 where
  pub low : 65 ≤ word.letter
  pub high : word.letter ≤ 90
  pub number : list_all is_number_byte word.number ≡ true
  pub short : length word.number ≤ 40

-- a line that is read as it was meant: it isn't too long, and says what its words say
abbrev pub IsWritten : WrittenLine → Type 0
IsWritten (Note note) = IsNote note
IsWritten (Words words) = All IsWord words × (length words ≤ 20)

-- ---- what such lines say

-- the block of a line: that of its words, from the left; a note says nothing
abbrev pub block_of_line : Units → WrittenLine → Result Block CodeKind
block_of_line units (Note note) = Ok empty_block
block_of_line units (Words words) = judge_words units empty_block words

-- the moves of the lines from the given number on, after so many earlier moves, by their words alone
abbrev pub moves_of_lines : Units → ℕ → ℕ → Position → List WrittenLine → Result (List LineMove) CodeFault
moves_of_lines units number count old [] = Ok []
moves_of_lines units number count old (line ∷ lines) =
    and_then (in_line number (and_then (block_of_line units line) (λ block. and_then (judge_move number count old block) (λ mv. Ok (block, mv)))))
    (λ (block, mv).
    if block.last then Ok (and_later mv [])
    else and_then (moves_of_lines units (number + 1) (if is_some mv then count + 1 else count) (moved old block) lines)
    (λ later. Ok (and_later mv later)))

-- a text of such lines is read as their words say
abbrev pub WrittenLinesLaw : Type 0
WrittenLinesLaw =
    (units : Units) (lines : List WrittenLine) → All IsWritten lines
    → moves_of units (code_text lines) ≡ moves_of_lines units 1 0 nowhere lines
