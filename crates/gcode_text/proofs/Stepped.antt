-- The states of a stepper, and the moves of the text that was fed.
use Rattle.std.proofs.Common.{◌≡◌, ℕ, ◌+◌, ◌<◌, ◌≤◌, Bool, true, false, not, ◌||◌, cond, if◌then◌else◌, eqb, ltb, Option, Some, None, List, [], ◌∷◌, ◌++◌, length, map, is_some, Result, Ok, Err, sym, ap, ◌∙◌, refl, arith, append_assoc}
use Rattle.std.specs.List.{list_all}
use Rattle.std.proofs.lemmas.Bool.{and_parts, and_from, lt-ltb, ltb-false}
use Rattle.std.proofs.lemmas.List.{append-nil, length_push}
use Rattle.grid_num.specs.Judging.{and_then}
use Rattle.grid_num.specs.declared.units.Units.{Units}
use Rattle.plane_exact.specs.declared.moves.LineMove.{LineMove}
use Rattle.text_lines.specs.Pieces.{Piece, pieces, with_first, without_return}
use Rattle.gcode_text.specs.Moves.{and_later, in_line, judge_move, line_block, moved, moves_from, moves_of}
use Rattle.gcode_text.specs.Stepping.{IsAfter, after, and_turn, behind_line, block_of, ended_line, last_in, last_move, move_of_line, moves_at_end, moves_reported, next, next_in, start_of, turn_by, turn_in, turn_of, with_byte}
use Rattle.gcode_text.specs.Within.{IsWithin}
use Rattle.gcode_text.specs.declared.block.Block.{Block}
use Rattle.gcode_text.specs.declared.fault.CodeFault.{CodeFault}
use Rattle.gcode_text.specs.declared.fault.CodeKind.{CodeKind}
use Rattle.gcode_text.specs.declared.state.Phase.{Phase}
use Rattle.gcode_text.specs.declared.state.Phase.TheVariants as phase
use Rattle.gcode_text.specs.declared.state.State.{State}
use Rattle.gcode_text.specs.declared.state.TheConstants.{MOST_CODE_BYTES}
use Rattle.gcode_text.specs.declared.state.Turn.{Turn}
use Rattle.gcode_text.specs.declared.state.Turn.TheVariants as turn

-- ---- one line
abbrev is_one_line : List ℕ → Bool
is_one_line line = list_all (λ byte. not (eqb byte 10)) line

no_feed : (feeds : Bool) → not feeds ≡ true → feeds ≡ false
no_feed true is = absurd (cc)
no_feed false is = refl

is_one_line-push : (line : List ℕ) (byte : ℕ) → is_one_line line ≡ true → eqb byte 10 ≡ false → is_one_line (line ++ byte ∷ []) ≡ true
is_one_line-push [] byte all other = rw other refl
is_one_line-push (first ∷ line) byte all other =
    let parts = and_parts _ _ all in
    and_from _ _ parts.0 (is_one_line-push line byte parts.1 other)

abbrev parts_at : ℕ → List ℕ → List Piece
parts_at at text = pieces (λ byte. eqb byte 10) at text

parts_at-more : (byte at : ℕ) (text : List ℕ) → eqb byte 10 ≡ false → parts_at at (byte ∷ text) ≡ with_first at byte (parts_at (at + 1) text)
parts_at-more byte at text other = rw other refl

-- the last line of a text
parts_at-open : (line : List ℕ) (at : ℕ) → is_one_line line ≡ true → parts_at at line ≡ record { at = at; bytes = line } ∷ []
parts_at-open [] at all = refl
parts_at-open (byte ∷ line) at all =
    let parts = and_parts _ _ all in
    parts_at-more byte at line (no_feed (eqb byte 10) parts.0) ∙ ap (with_first at byte) (parts_at-open line (at + 1) parts.1)

-- a line with its line feed
parts_at-closed : (line : List ℕ) (feed : ℕ) (rest : List ℕ) (at : ℕ) → is_one_line line ≡ true → eqb feed 10 ≡ true → (later : ℕ) × (parts_at at (line ++ feed ∷ rest) ≡ record { at = at; bytes = line } ∷ parts_at later rest)
parts_at-closed [] feed rest at all is = (at + 1, rw is refl)
parts_at-closed (byte ∷ line) feed rest at all is =
    let parts = and_parts _ _ all in
    let others = parts_at-closed line feed rest (at + 1) parts.1 is in
    (others.0, parts_at-more byte at (line ++ feed ∷ rest) (no_feed (eqb byte 10) parts.0) ∙ ap (with_first at byte) others.1)

length_without_return : (line : List ℕ) → length line ≤ length (without_return line) + 1
length_without_return [] = omega arith
length_without_return (byte ∷ []) =
    elim (eqb byte 13) as (λ b. length (byte ∷ []) ≤ length (cond b [] (byte ∷ [])) + 1) [ true ↦ omega arith | false ↦ omega arith ]
length_without_return (byte ∷ next ∷ rest) = omega (arith, length_without_return (next ∷ rest))

-- what is stored of a line whose end isn't read yet
record Stores (is_long : Bool) (stored line : List ℕ) : Type 0 where
  one_line : is_one_line line ≡ true
  bytes : is_long ≡ false → stored ≡ line
  long : is_long ≡ true → 1025 < length line

stores_none : Stores false [] []
stores_none = record { one_line = refl; bytes = λ _. refl; long = λ e. absurd (cc) }

stores_more : (fits is_long : Bool) (stored line : List ℕ) (byte : ℕ) → ltb (length stored) 1025 ≡ fits → eqb byte 10 ≡ false → Stores is_long stored line → Stores (not fits || is_long) (cond fits (stored ++ byte ∷ []) stored) (line ++ byte ∷ [])
stores_more true is_long stored line byte fits other stores = record {
  one_line = is_one_line-push line byte stores.one_line other;
  bytes = λ short. ap (λ xs. xs ++ byte ∷ []) (stores.bytes short);
  long = λ is. omega (arith, length_push line byte, stores.long is);
}
stores_more false is_long stored line byte full other stores = record {
  one_line = is_one_line-push line byte stores.one_line other;
  bytes = λ e. absurd (cc);
  long = λ _. omega (arith, length_push line byte, past_room is_long refl);
}
  where
    past_room : (b : Bool) → is_long ≡ b → 1025 ≤ length line
    past_room true is = omega (arith, stores.long is)
    past_room false is =
        let no_room : 1025 ≤ length stored = ltb-false _ _ full in
        omega (arith, no_room, ap length (stores.bytes is))

-- the block of what is stored is that of the line
block_of-Stores : (units : Units) (is_long : Bool) (stored line : List ℕ) → Stores is_long stored line → block_of units is_long stored ≡ line_block units (without_return line)
block_of-Stores units true stored line stores =
    let over : 1024 < length (without_return line) = omega (arith, stores.long refl, length_without_return line) in
    rw (lt-ltb _ _ over) refl
block_of-Stores units false stored line stores = ap (λ xs. line_block units (without_return xs)) (stores.bytes refl)

-- ---- the rest of a text
abbrev Ended : Type 0
Ended = Result (Block × Option LineMove) CodeFault

abbrev finish : State → List ℕ → Result (List LineMove) CodeFault
finish s rest = moves_at_end (moves_reported s rest) (last_move (after s rest))

-- behind a byte that reports this
abbrev and_rest : Turn → State → List ℕ → Result (List LineMove) CodeFault
and_rest report s rest = moves_at_end (and_turn report (moves_reported s rest)) (last_move (after s rest))

broken_stays : (rest : List ℕ) (s : State) (fault : CodeFault) → s.phase ≡ phase.Broken fault → last_move (after s rest) ≡ Err fault
broken_stays [] s fault is = ap (λ p. last_in p s) is
broken_stays (byte ∷ rest) s fault is =
    ap (λ p. last_move (after (next_in p (record s { fed = s.fed + 1 }) byte) rest)) is ∙ broken_stays rest (record s { fed = s.fed + 1 }) fault is

ended_stays : (rest : List ℕ) (s : State) → s.phase ≡ phase.Ended → last_move (after s rest) ≡ Ok None
ended_stays [] s is = ap (λ p. last_in p s) is
ended_stays (byte ∷ rest) s is =
    ap (λ p. last_move (after (next_in p (record s { fed = s.fed + 1 }) byte) rest)) is ∙ ended_stays rest (record s { fed = s.fed + 1 }) is

ended_reports : (rest : List ℕ) (s : State) → s.phase ≡ phase.Ended → moves_reported s rest ≡ []
ended_reports [] s is = refl
ended_reports (byte ∷ rest) s is =
    ap (λ p. and_turn (turn_in p s byte) (moves_reported (next_in p (record s { fed = s.fed + 1 }) byte) rest)) is ∙ ended_reports rest (record s { fed = s.fed + 1 }) is

-- so many moves, and that of a line
abbrev counted : Option LineMove → ℕ → ℕ
counted mv count = if is_some mv then count + 1 else count

-- the moves of a line that ends like this, and of the later lines
abbrev with_later : State → Ended → List Piece → Result (List LineMove) CodeFault
with_later s ended lines =
    and_then ended
    (λ (block, mv).
    if block.last then Ok (and_later mv [])
    else and_then (moves_from s.units (s.line + 1) (counted mv s.moves) (moved s.position block) lines)
    (λ later. Ok (and_later mv later)))

abbrev ended_with : State → Result Block CodeKind → Ended
ended_with s block =
    in_line s.line (and_then block (λ block. and_then (judge_move s.line s.moves s.position block) (λ mv. Ok (block, mv))))

-- behind a line of this block
abbrev goes_on : State → Block → Option LineMove → (is_last : Bool) → State
goes_on s block mv is_last =
    record s { line = s.line + 1; moves = counted mv s.moves; position = moved s.position block; bytes = record { items = [] }; is_long = false; phase = cond is_last phase.Ended s.phase }

and_turn-line : (mv : Option LineMove) (reported : List LineMove) (last : Result (Option LineMove) CodeFault) → and_then (moves_at_end reported last) (λ later. Ok (and_later mv later)) ≡ moves_at_end (and_turn (turn_by (Ok mv)) reported) last
and_turn-line None reported (Ok last) = refl
and_turn-line (Some mv) reported (Ok last) = refl
and_turn-line None reported (Err fault) = refl
and_turn-line (Some mv) reported (Err fault) = refl

closes : (s : State) (rest : List ℕ) (ended : Ended) (lines : List Piece) → ((block : Block) (mv : Option LineMove) → moves_from s.units (s.line + 1) (counted mv s.moves) (moved s.position block) lines ≡ finish (goes_on s block mv false) rest) → with_later s ended lines ≡ and_rest (turn_by (move_of_line ended)) (behind_line s ended) rest
closes s rest (Err fault) lines later =
    let broken = behind_line s (Err fault) in
    sym (ap (moves_at_end (moves_reported broken rest)) (broken_stays rest broken fault refl))
closes s rest (Ok (block, mv)) lines later = by_last block.last
  where
    nothing_more : (mv : Option LineMove) → Ok (and_later mv []) ≡ moves_at_end (and_turn (turn_by (Ok mv)) []) (Ok None)
    nothing_more None = refl
    nothing_more (Some mv) = refl

    by_last : (is_last : Bool) → cond is_last (Ok (and_later mv [])) (and_then (moves_from s.units (s.line + 1) (counted mv s.moves) (moved s.position block) lines) (λ later. Ok (and_later mv later))) ≡ and_rest (turn_by (Ok mv)) (goes_on s block mv is_last) rest
    by_last true =
        let ended = goes_on s block mv true in
        nothing_more mv ∙ ap (λ reported. moves_at_end (and_turn (turn_by (Ok mv)) reported) (Ok None)) (sym (ended_reports rest ended refl)) ∙ ap (λ last. moves_at_end (and_turn (turn_by (Ok mv)) (moves_reported ended rest)) last) (sym (ended_stays rest ended refl))
    by_last false =
        let open_state = goes_on s block mv false in
        ap (λ found. and_then found (λ later. Ok (and_later mv later))) (later block mv) ∙ and_turn-line mv (moves_reported open_state rest) (last_move (after open_state rest))

either_way : (b : Bool) (moves : Result (List LineMove) CodeFault) → cond b moves moves ≡ moves
either_way true moves = refl
either_way false moves = refl

ends : (s : State) (ended : Ended) → with_later s ended [] ≡ moves_at_end [] (move_of_line ended)
ends s (Err fault) = refl
ends s (Ok (block, mv)) = either_way block.last (Ok (and_later mv []))

-- the moves of a text, from where the state stands
abbrev moves_in : State → ℕ → List ℕ → Result (List LineMove) CodeFault
moves_in s at text =
    moves_from s.units s.line s.moves s.position (map (λ line. record { at = line.at; bytes = without_return line.bytes }) (parts_at at text))

abbrev ReadsOn : List ℕ → Type 0
ReadsOn rest =
    (s : State) (line : List ℕ) (at : ℕ) → s.phase ≡ phase.Open → Stores s.is_long s.bytes.items line → moves_in s at (line ++ rest) ≡ finish s rest

reads_byte : (feeds : Bool) (byte : ℕ) (rest : List ℕ) (s : State) (line : List ℕ) (at : ℕ) → eqb byte 10 ≡ feeds → s.phase ≡ phase.Open → Stores s.is_long s.bytes.items line → ReadsOn rest → let fed = record s { fed = s.fed + 1 } in moves_in s at (line ++ byte ∷ rest) ≡ and_rest (cond feeds (turn_by (move_of_line (ended_line s))) turn.Nothing) (cond feeds (behind_line fed (ended_line fed)) (with_byte fed byte)) rest
reads_byte true byte rest s line at is open_phase stores again =
    let fed = record s { fed = s.fed + 1 } in
    let cut = parts_at-closed line byte rest at stores.one_line is in
    let lines = map (λ line. record { at = line.at; bytes = without_return line.bytes }) (parts_at cut.0 rest) in
    ap (λ parts. moves_from s.units s.line s.moves s.position (map (λ line. record { at = line.at; bytes = without_return line.bytes }) parts)) cut.1 ∙ ap (λ block. with_later s (ended_with s block) lines) (sym (block_of-Stores s.units s.is_long s.bytes.items line stores)) ∙ closes fed rest (ended_line s) lines (λ block mv. again (goes_on fed block mv false) [] cut.0 open_phase stores_none)
reads_byte false byte rest s line at is open_phase stores again =
    let fed = record s { fed = s.fed + 1 } in
    ap (moves_in s at) (sym (append_assoc line (byte ∷ []) rest)) ∙ again (with_byte fed byte) (line ++ byte ∷ []) at open_phase (stores_more _ s.is_long s.bytes.items line byte refl is stores)

reads_on : (rest : List ℕ) → ReadsOn rest
reads_on [] s line at open_phase stores =
    let one = ap (parts_at at) (append-nil line) ∙ parts_at-open line at stores.one_line in
    ap (λ parts. moves_from s.units s.line s.moves s.position (map (λ line. record { at = line.at; bytes = without_return line.bytes }) parts)) one ∙ ap (λ block. with_later s (ended_with s block) []) (sym (block_of-Stores s.units s.is_long s.bytes.items line stores)) ∙ ends s (ended_line s) ∙ ap (λ p. moves_at_end [] (last_in p s)) (sym open_phase)
reads_on (byte ∷ rest) s line at open_phase stores =
    reads_byte (eqb byte 10) byte rest s line at refl open_phase stores (reads_on rest) ∙ ap (λ p. and_rest (turn_in p s byte) (next_in p (record s { fed = s.fed + 1 }) byte) rest) (sym open_phase)

pub moves_of-steps : (units : Units) (text : List ℕ) → moves_of units text ≡ moves_at_end (moves_reported (start_of units) text) (last_move (after (start_of units) text))
moves_of-steps units text = reads_on text (start_of units) [] 0 refl stores_none

-- ---- from state to state
pub after-append : (s : State) (front behind : List ℕ) → after s (front ++ behind) ≡ after (after s front) behind
after-append s [] behind = refl
after-append s (byte ∷ front) behind = after-append (next s byte) front behind

and_turn-append : (report : Turn) (front behind : List LineMove) → and_turn report (front ++ behind) ≡ and_turn report front ++ behind
and_turn-append turn.Nothing front behind = refl
and_turn-append (turn.Moved mv) front behind = refl
and_turn-append (turn.Failed fault) front behind = refl

pub moves_reported-append : (s : State) (front behind : List ℕ) → moves_reported s (front ++ behind) ≡ moves_reported s front ++ moves_reported (after s front) behind
moves_reported-append s [] behind = refl
moves_reported-append s (byte ∷ front) behind =
    ap (and_turn (turn_of s byte)) (moves_reported-append (next s byte) front behind) ∙ and_turn-append (turn_of s byte) _ _

pub record IsNext (old new : State) : Type 0 where
  pub units : new.units ≡ old.units
  pub fed : new.fed ≡ old.fed + 1
  pub line : new.line ≤ old.line + 1
  pub moves : new.moves ≤ old.moves + 1

counted-le : (mv : Option LineMove) (count : ℕ) → counted mv count ≤ count + 1
counted-le None count = omega arith
counted-le (Some mv) count = omega arith

IsNext-behind_line : (s : State) (ended : Ended) → IsNext s (behind_line (record s { fed = s.fed + 1 }) ended)
IsNext-behind_line s (Ok (block, mv)) = record { units = refl; fed = refl; line = omega arith; moves = counted-le mv s.moves }
IsNext-behind_line s (Err fault) = record { units = refl; fed = refl; line = omega arith; moves = omega arith }

IsNext-fed : (s : State) (byte : ℕ) (p : Phase) → IsNext s (next_in p (record s { fed = s.fed + 1 }) byte)
IsNext-fed s byte phase.Open =
    elim (eqb byte 10) as (λ feeds. IsNext s (cond feeds (behind_line (record s { fed = s.fed + 1 }) (ended_line s)) (with_byte (record s { fed = s.fed + 1 }) byte))) [
      | true ↦ IsNext-behind_line s (ended_line s)
      | false ↦ record { units = refl; fed = refl; line = omega arith; moves = omega arith }
    ]
IsNext-fed s byte phase.Ended = record { units = refl; fed = refl; line = omega arith; moves = omega arith }
IsNext-fed s byte (phase.Broken fault) = record { units = refl; fed = refl; line = omega arith; moves = omega arith }

pub IsNext-next : (s : State) (byte : ℕ) → IsNext s (next s byte)
IsNext-next s byte = IsNext-fed s byte s.phase

pub IsWithin-next : (s : State) (byte : ℕ) → IsWithin s → s.fed < MOST_CODE_BYTES → IsWithin (next s byte)
IsWithin-next s byte within room =
    let step = IsNext-next s byte in
    record {
      line = omega (arith, within.line, step.line, step.fed);
      moves = omega (arith, within.moves, step.moves, step.fed);
      fed = omega (arith, room, step.fed);
    }

pub IsAfter-next : (s : State) (byte : ℕ) (bytes : List ℕ) → IsAfter bytes s → IsAfter (bytes ++ byte ∷ []) (next s byte)
IsAfter-next s byte bytes is =
    ap (λ t. next t byte) is ∙ sym (after-append (start_of s.units) bytes (byte ∷ [])) ∙ ap (λ units. after (start_of units) (bytes ++ byte ∷ [])) (sym (IsNext-next s byte).units)
