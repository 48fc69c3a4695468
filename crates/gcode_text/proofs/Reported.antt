-- What a byte reports, and the moves of all bytes fed.
use Rattle.std.proofs.Common.{◌≡◌, ℕ, ◌+◌, Bool, true, false, ◌&&◌, cond, eqb, Option, Some, None, List, [], ◌∷◌, ◌++◌, is_some, Result, Ok, Err, sym, ap, ◌∙◌, refl}
use Rattle.std.proofs.lemmas.List.{append-nil}
use Rattle.grid_num.specs.Judging.{and_then}
use Rattle.grid_num.specs.declared.units.Units.{Units}
use Rattle.plane_exact.specs.Heights.{GridPlace}
use Rattle.plane_exact.specs.declared.moves.LineMove.{LineMove}
use Rattle.gcode_text.specs.Moves.{in_line, is_below, judge_move, move_between, moved, moves_of, spot_of}
use Rattle.gcode_text.specs.Stepping.{IfFailed, IfMoved, IsAfter, and_turn, behind_line, block_of, ended_line, last_in, last_move, move_of_line, moves_at_end, moves_reported, next, next_in, start_of, turn_by, turn_in, turn_of, with_byte}
use Rattle.gcode_text.specs.declared.block.Block.{Block}
use Rattle.gcode_text.specs.declared.fault.CodeFault.{CodeFault}
use Rattle.gcode_text.specs.declared.fault.CodeKind.{CodeKind}
use Rattle.gcode_text.specs.declared.fault.CodeKind.TheVariants as kind
use Rattle.gcode_text.specs.declared.modal.Position.{Position}
use Rattle.gcode_text.specs.declared.state.Phase.{Phase}
use Rattle.gcode_text.specs.declared.state.Phase.TheVariants as phase
use Rattle.gcode_text.specs.declared.state.State.{State}
use Rattle.gcode_text.specs.declared.state.Turn.{Turn}
use Rattle.gcode_text.specs.declared.state.Turn.TheVariants as turn
use Rattle.gcode_text.proofs.Stepped.{after-append, moves_of-steps, moves_reported-append}

abbrev Ended : Type 0
Ended = Result (Block × Option LineMove) CodeFault

-- the moves of the bytes and one more, by where that leads
moves_of-more : (s : State) (byte : ℕ) (bytes : List ℕ) → IsAfter bytes s → moves_of s.units (bytes ++ byte ∷ []) ≡ moves_at_end (moves_reported (start_of s.units) (bytes ++ byte ∷ [])) (last_move (next s byte))
moves_of-more s byte bytes is_after =
    let start = start_of s.units in
    let state = after-append start bytes (byte ∷ []) ∙ ap (λ t. next t byte) (sym is_after) in
    moves_of-steps s.units (bytes ++ byte ∷ []) ∙ ap (λ t. moves_at_end (moves_reported start (bytes ++ byte ∷ [])) (last_move t)) state

-- ---- a fault
IfFailed-from : (report : Turn) (P : CodeFault → Type 0) → ((fault : CodeFault) → report ≡ turn.Failed fault → P fault) → IfFailed report P
IfFailed-from turn.Nothing P is = tt
IfFailed-from (turn.Moved mv) P is = tt
IfFailed-from (turn.Failed fault) P is = is fault refl

failed_line : (s : State) (ended : Ended) (fault : CodeFault) → turn_by (move_of_line ended) ≡ turn.Failed fault → last_move (behind_line s ended) ≡ Err fault
failed_line s (Ok (block, None)) fault is = absurd (cc)
failed_line s (Ok (block, Some mv)) fault is = absurd (cc)
failed_line s (Err other) fault is = let same : other ≡ fault = cc is in ap Err same

failed_in : (p : Phase) (s : State) (byte : ℕ) (fault : CodeFault) → turn_in p s byte ≡ turn.Failed fault → last_move (next_in p (record s { fed = s.fed + 1 }) byte) ≡ Err fault
failed_in phase.Open s byte fault is = by_feed (eqb byte 10) is
  where
    by_feed : (feeds : Bool) → cond feeds (turn_by (move_of_line (ended_line s))) turn.Nothing ≡ turn.Failed fault → last_move (cond feeds (behind_line (record s { fed = s.fed + 1 }) (ended_line s)) (with_byte (record s { fed = s.fed + 1 }) byte)) ≡ Err fault
    by_feed true is = failed_line (record s { fed = s.fed + 1 }) (ended_line s) fault is
    by_feed false is = absurd (cc)
failed_in phase.Ended s byte fault is = absurd (cc)
failed_in (phase.Broken other) s byte fault is = absurd (cc)

-- it is the fault of all bytes
pub failed_is : (s : State) (byte : ℕ) → IfFailed (turn_of s byte) (λ fault. (bytes : List ℕ) → IsAfter bytes s → moves_of s.units (bytes ++ byte ∷ []) ≡ Err fault)
failed_is s byte =
    IfFailed-from (turn_of s byte) _
    (λ fault is bytes is_after.
    moves_of-more s byte bytes is_after ∙ ap (moves_at_end (moves_reported (start_of s.units) (bytes ++ byte ∷ []))) (failed_in s.phase s byte fault is))

-- ---- a move
IfMoved-from : (report : Turn) (P : LineMove → Type 0) → ((mv : LineMove) → report ≡ turn.Moved mv → P mv) → IfMoved report P
IfMoved-from turn.Nothing P is = tt
IfMoved-from (turn.Moved mv) P is = is mv refl
IfMoved-from (turn.Failed fault) P is = tt

-- a line that gives a move leaves no coordinate unknown
placed_by : (unplaced too_many names : Bool) (line : ℕ) (from to : Option GridPlace) (mv : LineMove) → cond unplaced (Err kind.Unplaced) (cond too_many (Err kind.TooMany) (Ok (cond names (move_between line from to) None))) ≡ Ok (Some mv) → is_some to ≡ true
placed_by true too_many names line from to mv is = absurd (cc)
placed_by false true names line from to mv is = absurd (cc)
placed_by false false false line from to mv is = absurd (cc)
placed_by false false true line None None mv is = absurd (cc)
placed_by false false true line None (Some to) mv is = absurd (cc)
placed_by false false true line (Some from) None mv is = absurd (cc)
placed_by false false true line (Some from) (Some to) mv is = refl

placed : (line count : ℕ) (old : Position) (read : Result Block CodeKind) (block : Block) (mv : LineMove) → in_line {A = Block × Option LineMove} line (and_then read (λ block. and_then (judge_move line count old block) (λ mv. Ok (block, mv)))) ≡ Ok (block, Some mv) → is_some (spot_of (moved old block)) ≡ true
placed line count old (Err fault) block mv is = absurd (cc)
placed line count old (Ok read) block mv is = by_move (judge_move line count old read) refl is
  where
    by_move : (judged : Result (Option LineMove) CodeKind) → judge_move line count old read ≡ judged → in_line {A = Block × Option LineMove} line (and_then judged (λ mv. Ok (read, mv))) ≡ Ok (block, Some mv) → is_some (spot_of (moved old block)) ≡ true
    by_move (Err fault) judged_is is = absurd (cc)
    by_move (Ok found) judged_is is =
        let pair : ◌≡◌ {A = Block × Option LineMove} (read, found) (block, Some mv) = cc is in
        let same : read ≡ block = ap (λ (p : Block × Option LineMove). p.0) pair in
        let found_is : found ≡ Some mv = ap (λ (p : Block × Option LineMove). p.1) pair in
        ap (λ b. is_some (spot_of (moved old b))) (sym same) ∙ placed_by _ _ _ line (spot_of old) (spot_of (moved old read)) mv (judged_is ∙ ap Ok found_is)

and_false : (b : Bool) → (b && false) ≡ false
and_false true = refl
and_false false = refl

-- an empty line gives no move, where every coordinate is known
empty_line : (units : Units) (line count : ℕ) (old : Position) → is_some (spot_of old) ≡ true → move_of_line (in_line {A = Block × Option LineMove} line (and_then (block_of units false []) (λ block. and_then (judge_move line count old block) (λ mv. Ok (block, mv))))) ≡ Ok None
empty_line units line count old known = rw (known, and_false (is_below old.z)) refl

moved_line : (s : State) (ended : Ended) (mv : LineMove) → s.phase ≡ phase.Open → ended_line s ≡ ended → turn_by (move_of_line ended) ≡ turn.Moved mv → last_move (behind_line s ended) ≡ Ok None
moved_line s (Err fault) mv open_phase ended_is is = absurd (cc)
moved_line s (Ok (block, None)) mv open_phase ended_is is = absurd (cc)
moved_line s (Ok (block, Some other)) mv open_phase ended_is is = by_last block.last
  where
    known : is_some (spot_of (moved s.position block)) ≡ true
    known = placed s.line s.moves s.position (block_of s.units s.is_long s.bytes.items) block other ended_is

    by_last : (is_last : Bool) → last_in (cond is_last phase.Ended s.phase) (record s { line = s.line + 1; moves = s.moves + 1; position = moved s.position block; bytes = record { items = [] }; is_long = false; phase = cond is_last phase.Ended s.phase }) ≡ Ok None
    by_last true = refl
    by_last false =
        ap (λ p. last_in p (record s { line = s.line + 1; moves = s.moves + 1; position = moved s.position block; bytes = record { items = [] }; is_long = false })) open_phase ∙ empty_line s.units (s.line + 1) (s.moves + 1) (moved s.position block) known

moved_in : (p : Phase) (s : State) (byte : ℕ) (mv : LineMove) → s.phase ≡ p → turn_in p s byte ≡ turn.Moved mv → last_move (next_in p (record s { fed = s.fed + 1 }) byte) ≡ Ok None
moved_in phase.Open s byte mv open_phase is = by_feed (eqb byte 10) is
  where
    by_feed : (feeds : Bool) → cond feeds (turn_by (move_of_line (ended_line s))) turn.Nothing ≡ turn.Moved mv → last_move (cond feeds (behind_line (record s { fed = s.fed + 1 }) (ended_line s)) (with_byte (record s { fed = s.fed + 1 }) byte)) ≡ Ok None
    by_feed true is = moved_line (record s { fed = s.fed + 1 }) (ended_line s) mv open_phase refl is
    by_feed false is = absurd (cc)
moved_in phase.Ended s byte mv open_phase is = absurd (cc)
moved_in (phase.Broken fault) s byte mv open_phase is = absurd (cc)

-- it is the last of the moves of all bytes
pub moved_is : (s : State) (byte : ℕ) → IfMoved (turn_of s byte) (λ mv. (bytes : List ℕ) → IsAfter bytes s → moves_of s.units (bytes ++ byte ∷ []) ≡ Ok (moves_reported (start_of s.units) bytes ++ mv ∷ []))
moved_is s byte =
    IfMoved-from (turn_of s byte) _
    (λ mv is bytes is_after.
    let start = start_of s.units in
    let reported : moves_reported start (bytes ++ byte ∷ []) ≡ moves_reported start bytes ++ mv ∷ [] =
    moves_reported-append start bytes (byte ∷ []) ∙ ap (λ t. moves_reported start bytes ++ and_turn (turn_of t byte) []) (sym is_after) ∙ ap (λ report. moves_reported start bytes ++ and_turn report []) is in
    moves_of-more s byte bytes is_after ∙ ap (moves_at_end (moves_reported start (bytes ++ byte ∷ []))) (moved_in s.phase s byte mv refl is) ∙ ap Ok (append-nil (moves_reported start (bytes ++ byte ∷ [])) ∙ reported))
