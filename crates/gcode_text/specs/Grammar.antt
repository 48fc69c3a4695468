-- The grammar of a line: what stands outside its comments, its words, and the block that the words make, judged from the left.
use Rattle.std.specs.Prelude.{ℕ, ◌-◌, ◌*◌, Bool, true, false, ◌&&◌, ◌||◌, if◌then◌else◌, Option, Some, None, List, [], ◌∷◌, option_map, nat_le, ◌==◌, not, ℤ, pos, negsuc, int_le, codes, is_some, Result, Ok, Err}
use Rattle.std.specs.Char.{is_ascii_digit}
use Rattle.text_lines.specs.Pieces.{is_blank}
use Rattle.std.specs.List.{list_any}
use Rattle.grid_num.specs.Judging.{and_then}
use Rattle.grid_num.specs.Decimal.{PlainNumber, decimal_number, times_scale, is_tenths}
use Rattle.grid_num.specs.Units.{per_unit_of, is_inch_of}
use Rattle.grid_num.specs.declared.units.Units.{Units}
use Rattle.gcode_text.specs.declared.block.Block.{Block}
use Rattle.gcode_text.specs.declared.fault.CodeKind.{CodeKind}
use Rattle.gcode_text.specs.declared.fault.CodeKind.TheVariants as kind

-- a small letter as the capital
abbrev pub capital : ℕ → ℕ
capital byte = if nat_le 97 byte && nat_le byte 122 then byte - 32 else byte

-- The line outside its comments, without blanks and in capitals. A comment goes from '(' (40) to the next ')' (41),
-- or from ';' (59) to the line's end. None where a '(' has no ')'.
abbrev pub outside_comments : (in_comment : Bool) → List ℕ → Option (List ℕ)
outside_comments true [] = None
outside_comments true (byte ∷ rest) = outside_comments (if byte == 41 then false else true) rest
outside_comments false [] = Some []
outside_comments false (byte ∷ rest) =
    if byte == 40 then outside_comments true rest
    else if byte == 59 then Some []
    else if is_blank byte then outside_comments false rest
    else option_map (λ outside. capital byte ∷ outside) (outside_comments false rest)

-- what stands in a letter's place, and the characters of a number that follow it
pub record Word : Type 0 where
  pub letter : ℕ
  pub number : List ℕ

-- a sign, a point or a digit
abbrev pub is_number_byte : ℕ → Bool
is_number_byte byte = byte == 43 || byte == 45 || byte == 46 || is_ascii_digit byte

-- the characters of a number that a text begins with, and the words behind them
abbrev pub cut_number : List ℕ → List ℕ × List Word
cut_number [] = ([], [])
cut_number (byte ∷ rest) =
    if is_number_byte byte
    then (byte ∷ (cut_number rest).0, (cut_number rest).1)
    else ([], record { letter = byte; number = (cut_number rest).0 } ∷ (cut_number rest).1)

-- the words of what stands outside comments: each is a letter and the longest run of characters of a number behind it
abbrev pub line_words : List ℕ → List Word
line_words [] = []
line_words (letter ∷ rest) = record { letter = letter; number = (cut_number rest).0 } ∷ (cut_number rest).1

-- ---- the profile: which words a line may have

-- the block of no words: no word of N, F, S or P, no G0 or G1, no coordinate, no M2 or M30
abbrev pub empty_block : Block
empty_block = record { n = false; f = false; s = false; p = false; motion = false; x = None; y = None; z = None; last = false }

-- the byte stands in the list
abbrev pub is_among : List ℕ → ℕ → Bool
is_among bytes byte = list_any (λ other. other == byte) bytes

-- the number is one of these, in tenths
abbrev pub is_one_of : List ℕ → PlainNumber → Bool
is_one_of tenths number = list_any (is_tenths number) tenths

-- what a text gives, or the kind in place of its fault
abbrev pub or_kind : {A E : Type 0} → CodeKind → Result A E → Result A CodeKind
or_kind fault (Ok x) = Ok x
or_kind fault (Err _) = Err fault

-- G0 and G1 once in a line; G20 or G21, the job's unit; G91 refused by its own name; G17, G40, G49, G54, G61, G64, G80, G90,
-- G91.1 and G94 without effect
abbrev pub judge_g : Units → Block → PlainNumber → Result Block CodeKind
judge_g units block number =
    if is_one_of (0 ∷ 10 ∷ []) number then (if block.motion then Err kind.Twice else Ok (record block { motion = true }))
    else if is_tenths number 200 then (if is_inch_of units then Ok block else Err kind.Units)
    else if is_tenths number 210 then (if is_inch_of units then Err kind.Units else Ok block)
    else if is_tenths number 910 then Err kind.Incremental
    else if is_one_of (170 ∷ 400 ∷ 490 ∷ 540 ∷ 610 ∷ 640 ∷ 800 ∷ 900 ∷ 911 ∷ 940 ∷ []) number then Ok block
    else Err kind.Word

-- M2 and M30 end the program; M3, M4, M5, M7, M8 and M9 are without effect
abbrev pub judge_m : Block → PlainNumber → Result Block CodeKind
judge_m block number =
    if is_one_of (20 ∷ 300 ∷ []) number then Ok (record block { last = true })
    else if is_one_of (30 ∷ 40 ∷ 50 ∷ 70 ∷ 80 ∷ 90 ∷ []) number then Ok block
    else Err kind.Word

-- the number, where it is from low to high
abbrev pub in_range : ℤ → ℤ → ℤ → Result ℤ CodeKind
in_range low high z = if int_le low z && int_le z high then Ok z else Err kind.OutOfRange

-- a number in tenths of a grid unit
abbrev pub tenths_of : Units → PlainNumber → Result ℤ CodeKind
tenths_of units number = or_kind kind.OffGrid (times_scale (10 * per_unit_of units) number)

-- X and Y, in tenths of a grid unit: from -327,680 to 327,670
abbrev pub coordinate : Units → PlainNumber → Result ℤ CodeKind
coordinate units number = and_then (tenths_of units number) (in_range (negsuc 327679) (pos 327670))

-- Z, in tenths of a grid unit: from -327,670 to 327,670
abbrev pub height : Units → PlainNumber → Result ℤ CodeKind
height units number = and_then (tenths_of units number) (in_range (negsuc 327669) (pos 327670))

-- a letter that stands once in a line, and the block with it
abbrev pub once : Bool → Result Block CodeKind → Result Block CodeKind
once stood block = if stood then Err kind.Twice else block

-- N, F, S and P take any number, without effect
abbrev pub judge_unused : Block → ℕ → Result Block CodeKind
judge_unused block letter =
    if letter == 78 then once block.n (Ok (record block { n = true }))
    else if letter == 70 then once block.f (Ok (record block { f = true }))
    else if letter == 83 then once block.s (Ok (record block { s = true }))
    else once block.p (Ok (record block { p = true }))

-- X (88) and Y (89) are coordinates, Z (90) is a height; N (78), F (70), S (83) and P have no effect
abbrev pub judge_other : Units → Block → ℕ → PlainNumber → Result Block CodeKind
judge_other units block letter number =
    if letter == 88 then once (is_some block.x) (and_then (coordinate units number) (λ x. Ok (record block { x = Some x })))
    else if letter == 89 then once (is_some block.y) (and_then (coordinate units number) (λ y. Ok (record block { y = Some y })))
    else if letter == 90 then once (is_some block.z) (and_then (height units number) (λ z. Ok (record block { z = Some z })))
    else judge_unused block letter

-- a word with one of the letters of the profile; G is 71 and M is 77
abbrev pub judge_word : Units → Block → Word → Result Block CodeKind
judge_word units block word =
    if not (is_among (codes "NGMXYZFSP") word.letter) then Err kind.Word
    else and_then (or_kind kind.Number (decimal_number word.number))
    (λ number.
    if word.letter == 71 then judge_g units block number
    else if word.letter == 77 then judge_m block number
    else judge_other units block word.letter number)

-- the block of the words, from the left, after the block of those before them
abbrev pub judge_words : Units → Block → List Word → Result Block CodeKind
judge_words units block [] = Ok block
judge_words units block (word ∷ words) = and_then (judge_word units block word) (λ next. judge_words units next words)
