-- Lines that lead the bit from place to place, and the moves that they make.
use Rattle.std.specs.Prelude.{if◌then◌else◌, nat_le}
use Rattle.std.proofs.Common.{◌≡◌, ℕ, ◌+◌, ◌<◌, ◌≤◌, Bool, true, false, ◌&&◌, cond, Option, Some, None, List, [], ◌∷◌, ◌++◌, length, is_some, Result, Ok, Err, ap, ◌∙◌, refl, arith}
use Rattle.std.proofs.Math.Bool.{and-false}
use Rattle.std.proofs.lemmas.Bool.{lt-leb}
use Rattle.grid_num.specs.Judging.{and_then}
use Rattle.grid_num.specs.declared.units.Units.{Units}
use Rattle.plane_exact.specs.Heights.{GridPlace}
use Rattle.plane_exact.specs.declared.moves.LineMove.{LineMove}
use Rattle.gcode_text.specs.Moves.{and_later, in_line, is_below, judge_move, move_between, moved, names_place, spot_of}
use Rattle.gcode_text.specs.Path.{moves_through}
use Rattle.gcode_text.specs.Written.{WrittenLine, block_of_line, moves_of_lines}
use Rattle.gcode_text.specs.declared.block.Block.{Block}
use Rattle.gcode_text.specs.declared.fault.CodeFault.{CodeFault}
use Rattle.gcode_text.specs.declared.fault.CodeKind.{CodeKind}
use Rattle.gcode_text.specs.declared.fault.CodeKind.TheVariants as kind
use Rattle.gcode_text.specs.declared.modal.Position.{Position}
use Rattle.gcode_text.specs.declared.modal.TheConstants.{MOST_MOVES}

-- the position of a place that is known
abbrev pub at_place : GridPlace → Position
at_place place = record { x = Some place.at.x; y = Some place.at.y; z = Some place.h }

-- the line takes the bit from one place to the other
pub record Leads (units : Units) (from : GridPlace) (line : WrittenLine) (to : GridPlace) : Type 0 where
  pub block : Block
  pub reads : block_of_line units line ≡ Ok block
  pub names : names_place block ≡ true
  pub goes_on : block.last ≡ false
  pub reaches : moved (at_place from) block ≡ at_place to

-- the lines take the bit from a place through the others, one after the other
abbrev pub LeadThrough : Units → GridPlace → List WrittenLine → List GridPlace → Type 0
LeadThrough units from [] [] = Unit {0}
LeadThrough units from (line ∷ lines) (to ∷ places) = Leads units from line to × LeadThrough units to lines places
LeadThrough units from [] (to ∷ places) = ⊥
LeadThrough units from (line ∷ lines) [] = ⊥

-- ---- one line

abbrev Later : Type 0
Later = Result (List LineMove) CodeFault

-- what comes of a line that is judged
abbrev behind : Units → ℕ → ℕ → Position → List WrittenLine → Result (Block × Option LineMove) CodeKind → Later
behind units number count old lines judged =
    and_then (in_line number judged)
    (λ (block, mv).
    if block.last then Ok (and_later mv [])
    else and_then (moves_of_lines units (number + 1) (if is_some mv then count + 1 else count) (moved old block) lines)
    (λ later. Ok (and_later mv later)))

-- a line that is read, and doesn't end the program
pub passes : (units : Units) (line : WrittenLine) (number count : ℕ) (old : Position) (block : Block) (mv : Option LineMove) (lines : List WrittenLine) → block_of_line units line ≡ Ok block → judge_move number count old block ≡ Ok mv → block.last ≡ false → moves_of_lines units number count old (line ∷ lines) ≡ and_then (moves_of_lines units (number + 1) (if is_some mv then count + 1 else count) (moved old block) lines) (λ later. Ok (and_later mv later))
passes units line number count old block mv lines reads is goes_on =
    ap (λ read. behind units number count old lines (and_then read (λ block. and_then (judge_move number count old block) (λ mv. Ok (block, mv))))) reads
    ∙ ap (λ judged. behind units number count old lines (and_then judged (λ mv. Ok (block, mv)))) is
    ∙ ap (λ last. cond last (Ok (and_later mv []))
    (and_then (moves_of_lines units (number + 1) (if is_some mv then count + 1 else count) (moved old block) lines) (λ later. Ok (and_later mv later)))) goes_on

same_later : (later : Later) → and_then later (λ moves. Ok moves) ≡ later
same_later (Ok moves) = refl
same_later (Err fault) = refl

-- the same where it makes no move
pub passes_still : (units : Units) (line : WrittenLine) (number count : ℕ) (old : Position) (block : Block) (lines : List WrittenLine) → block_of_line units line ≡ Ok block → judge_move number count old block ≡ Ok None → block.last ≡ false → moves_of_lines units number count old (line ∷ lines) ≡ moves_of_lines units (number + 1) count (moved old block) lines
passes_still units line number count old block lines reads is goes_on =
    passes units line number count old block None lines reads is goes_on ∙ same_later (moves_of_lines units (number + 1) count (moved old block) lines)

-- how a line is judged that comes from a place, by whether it names one and where it ends
abbrev judged_from : ℕ → ℕ → GridPlace → Bool → Position → Result (Option LineMove) CodeKind
judged_from number count from names new =
    if is_below new.z && false then Err kind.Unplaced
    else if names && true && nat_le MOST_MOVES count then Err kind.TooMany
    else Ok (if names then move_between number (Some from) (spot_of new) else None)

leads_on : (units : Units) (number count : ℕ) (from to : GridPlace) (line : WrittenLine) → (leads : Leads units from line to) → count < MOST_MOVES → judge_move number count (at_place from) leads.block ≡ Ok (Some (record { line = number; mv = record { from = from; to = to } }))
leads_on units number count from to line leads few =
    ap (judged_from number count from (names_place leads.block)) leads.reaches
    ∙ ap (λ names. judged_from number count from names (at_place to)) leads.names
    ∙ rw (and-false (is_below (Some to.h)), lt-leb MOST_MOVES count few) refl

-- ---- lines in turn

-- The moves of lines that lead through places, with what comes behind them. It makes no move.
pub led_through : (units : Units) (number count : ℕ) (from : GridPlace) (lines : List WrittenLine) (places : List GridPlace) (tail : List WrittenLine) → LeadThrough units from lines places → length places + count ≤ MOST_MOVES → ((number count : ℕ) (at : GridPlace) → moves_of_lines units number count (at_place at) tail ≡ Ok []) → moves_of_lines units number count (at_place from) (lines ++ tail) ≡ Ok (moves_through number from places)
led_through units number count from [] [] tail leads few ends = ends number count from
led_through units number count from (line ∷ lines) (to ∷ places) tail leads few ends =
    let mv : LineMove = record { line = number; mv = record { from = from; to = to } } in
    let first = leads.0 in
    passes units line number count (at_place from) first.block (Some mv) (lines ++ tail) first.reads (leads_on units number count from to line first (omega arith)) first.goes_on
    ∙ ap (λ position. and_then (moves_of_lines units (number + 1) (count + 1) position (lines ++ tail)) (λ later. Ok (mv ∷ later))) first.reaches
    ∙ ap (λ later. and_then later (λ moves. Ok (mv ∷ moves))) (led_through units (number + 1) (count + 1) to lines places tail leads.1 (omega arith) ends)
led_through units number count from [] (to ∷ places) tail leads few ends = absurd leads
led_through units number count from (line ∷ lines) [] tail leads few ends = absurd leads
