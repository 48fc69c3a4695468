-- A text of written lines, read back: its lines, and the moves that they make.
use Rattle.std.proofs.Common.{◌≡◌, ℕ, ◌+◌, Bool, true, false, not, ◌&&◌, if◌then◌else◌, eqb, leb, Option, Some, None, List, [], ◌∷◌, ◌++◌, map, is_some, ℤ, Result, Ok, Err, ap, ◌∙◌, refl, arith, append_assoc}
use Rattle.std.specs.List.{All, AllByRecursion, list_all}
use Rattle.std.specs.Result.{IfOk}
use Rattle.std.proofs.lemmas.Bool.Decides.{nat_tests}
use Rattle.std.proofs.lemmas.List.Elements.{recursion_from_All}
use Rattle.grid_num.specs.Judging.{and_then}
use Rattle.grid_num.specs.declared.units.Units.{Units}
use Rattle.plane_exact.specs.declared.moves.LineMove.{LineMove}
use Rattle.text_lines.specs.Pieces.{Piece, pieces, without_return}
use Rattle.gcode_text.specs.Moves.{and_later, in_line, is_below, judge_move, latest, line_block, move_of, moved, moves_from, moves_of, nowhere, spot_from, spot_of}
use Rattle.gcode_text.specs.Written.{WrittenLine, IsWritten, block_of_line, code_text, line_text, moves_of_lines}
use Rattle.gcode_text.specs.declared.block.Block.{Block}
use Rattle.gcode_text.specs.declared.fault.CodeFault.{CodeFault}
use Rattle.gcode_text.specs.declared.fault.CodeKind.{CodeKind}
use Rattle.gcode_text.specs.declared.fault.CodeKind.TheVariants as kind
use Rattle.gcode_text.specs.declared.modal.Position.{Position}
use Rattle.gcode_text.proofs.Lines.{all_parts, is_visible, line_block-line_text, visible_line}

-- ---- lines of a text
abbrev parts_at : ℕ → List ℕ → List Piece
parts_at at text = pieces (λ byte. eqb byte 10) at text

-- the control characters are those below 32
control_apart : (byte control : ℕ) → is_visible byte ≡ true → leb control 31 ≡ true → eqb byte control ≡ false
control_apart byte control visible is = grind (arith, nat_tests)

-- a line with its line feed
parts_at-line : (line rest : List ℕ) (at : ℕ) → list_all is_visible line ≡ true → (later : ℕ) × (parts_at at (line ++ 10 ∷ rest) ≡ record { at = at; bytes = line } ∷ parts_at later rest)
parts_at-line [] rest at all = (at + 1, refl)
parts_at-line (byte ∷ line) rest at all =
    let parts = all_parts is_visible byte line all in
    let others = parts_at-line line rest (at + 1) parts.1 in
    (others.0, rw (control_apart byte 10 parts.0 refl, others.1) refl)

no_return : (line : List ℕ) → list_all is_visible line ≡ true → without_return line ≡ line
no_return [] all = refl
no_return (byte ∷ []) all = rw (control_apart byte 13 (all_parts is_visible byte [] all).0 refl) refl
no_return (byte ∷ next ∷ rest) all = ap (λ bytes. byte ∷ bytes) (no_return (next ∷ rest) (all_parts is_visible byte (next ∷ rest) all).1)

-- ---- where the bit is
-- it isn't below the surface at a place that isn't known
abbrev IsPlaced : Position → Type 0
IsPlaced at = (is_below at.z && not (is_some (spot_of at))) ≡ false

-- coordinates that are known stay known
latest_known : (old : ℤ) (new : Option ℤ) → (v : ℤ) × (latest (Some old) new ≡ Some v)
latest_known old None = (old, refl)
latest_known old (Some new) = (new, refl)

pub known_stays : (x y z new_x new_y new_z : Option ℤ) → is_some (spot_from x y z) ≡ true → is_some (spot_from (latest x new_x) (latest y new_y) (latest z new_z)) ≡ true
known_stays (Some x) (Some y) (Some z) new_x new_y new_z is =
    rw ((latest_known x new_x).1, (latest_known y new_y).1, (latest_known z new_z).1) refl
known_stays None y z new_x new_y new_z is = absurd (cc)
known_stays (Some x) None z new_x new_y new_z is = absurd (cc)
known_stays (Some x) (Some y) None new_x new_y new_z is = absurd (cc)

IsPlaced-moved : (old : Position) (block : Block) → (is_below (moved old block).z && not (is_some (spot_of old))) ≡ false → IsPlaced (moved old block)
IsPlaced-moved old block is =
    by (is_below (moved old block).z) (is_some (spot_of old)) (is_some (spot_of (moved old block))) (known_stays old.x old.y old.z block.x block.y block.z) is
  where
    by : (below known knows : Bool) → (known ≡ true → knows ≡ true) → (below && not known) ≡ false → (below && not knows) ≡ false
    by false known knows stays is = refl
    by true true knows stays is = rw (stays refl) refl
    by true false knows stays is = absurd (cc)

-- ---- moves
-- the block of a line and its move, or the fault of either
abbrev pub judged : ℕ → ℕ → Position → Result Block CodeKind → Result (Block × Option LineMove) CodeKind
judged number count old block =
    and_then block (λ block. and_then (judge_move number count old block) (λ mv. Ok (block, mv)))

-- behind a line without a fault
judged_placed : (number count : ℕ) (old : Position) (block : Result Block CodeKind) → IfOk (judged number count old block) (λ found. IsPlaced (moved old found.0))
judged_placed number count old (Err fault) = tt
judged_placed number count old (Ok block) = by _ _ refl
  where
    by : (unplaced many : Bool) → (is_below (moved old block).z && not (is_some (spot_of old))) ≡ unplaced → IfOk {T = Block × Option LineMove} (and_then (if unplaced then Err kind.Unplaced else if many then Err kind.TooMany else Ok (move_of number old block)) (λ mv. Ok (block, mv))) (λ found. IsPlaced (moved old found.0))
    by true many is = tt
    by false true is = tt
    by false false is = IsPlaced-moved old block is

-- the moves of the later lines, behind so many moves and at a place
abbrev pub Later : Type 0
Later = ℕ → Position → Result (List LineMove) CodeFault

-- the moves of a line that was judged, and then those of the later lines
abbrev pub with_later : ℕ → ℕ → Position → Result (Block × Option LineMove) CodeKind → Later → Result (List LineMove) CodeFault
with_later number count old line later =
    and_then (in_line number line)
    (λ (block, mv).
    if block.last then Ok (and_later mv [])
    else and_then (later (if is_some mv then count + 1 else count) (moved old block))
    (λ more. Ok (and_later mv more)))

same_later : (number count : ℕ) (old : Position) (line : Result (Block × Option LineMove) CodeKind) (f g : Later) → IfOk line (λ found. IsPlaced (moved old found.0)) → ((count : ℕ) (at : Position) → IsPlaced at → f count at ≡ g count at) → with_later number count old line f ≡ with_later number count old line g
same_later number count old (Err fault) f g placed same = refl
same_later number count old (Ok (block, mv)) f g placed same =
    ap (λ later. if block.last then Ok (and_later mv []) else and_then later (λ more. Ok (and_later mv more))) (same (if is_some mv then count + 1 else count) (moved old block) placed)

-- the moves of lines that are cut already
abbrev moves_of_parts : Units → ℕ → ℕ → Position → List Piece → Result (List LineMove) CodeFault
moves_of_parts units number count old parts =
    moves_from units number count old (map (λ line. record { at = line.at; bytes = without_return line.bytes }) parts)

-- the moves of a text that begins at a place
abbrev moves_in : Units → ℕ → ℕ → Position → ℕ → List ℕ → Result (List LineMove) CodeFault
moves_in units number count old at text = moves_of_parts units number count old (parts_at at text)

-- the empty line behind the last line feed makes no move, since where the lines lead the bit is placed
reads_lines : (units : Units) (lines : List WrittenLine) (number count : ℕ) (old : Position) (at : ℕ) → AllByRecursion IsWritten lines → IsPlaced old → moves_in units number count old at (code_text lines) ≡ moves_of_lines units number count old lines
reads_lines units [] number count old at all placed = rw placed refl
reads_lines units (line ∷ lines) number count old at all placed =
    let text = line_text line in
    let visible = visible_line line all.0 in
    let cut = parts_at-line text (code_text lines) at visible in
    let block = block_of_line units line in
    let reads : line_block units (without_return text) ≡ block =
    ap (line_block units) (no_return text visible) ∙ line_block-line_text units line all.0 in
    let later : Later = λ count old. moves_in units (number + 1) count old cut.0 (code_text lines) in
    let same = same_later number count old (judged number count old block) later (λ count old. moves_of_lines units (number + 1) count old lines) (judged_placed number count old block) (λ count old placed. reads_lines units lines (number + 1) count old cut.0 all.1 placed) in
    ap (moves_in units number count old at) (append_assoc text (10 ∷ []) (code_text lines)) ∙ ap (moves_of_parts units number count old) cut.1 ∙ ap (λ block. with_later number count old (judged number count old block) later) reads ∙ same

pub moves_of-code_text : (units : Units) (lines : List WrittenLine) → All IsWritten lines → moves_of units (code_text lines) ≡ moves_of_lines units 1 0 nowhere lines
moves_of-code_text units lines all =
    reads_lines units lines 1 0 nowhere 0 (recursion_from_All IsWritten lines all) refl
