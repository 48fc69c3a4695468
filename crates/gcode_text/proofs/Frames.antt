-- What stands round the lines of a program: its title and its setup before them, its notes and its end behind them.
use Rattle.std.specs.Prelude.{if◌then◌else◌, codes, decimal, map}
use Rattle.std.proofs.Common.{◌≡◌, ℕ, ◌+◌, ◌≤◌, true, false, not, ◌&&◌, cond, Some, None, List, [], ◌∷◌, ◌++◌, length, is_some, pos, ◌*ℤ◌, ◌^◌, Ok, Err, ap, ◌∙◌, refl, arith}
use Rattle.std.specs.List.{All}
use Rattle.std.proofs.Math.Bool.{and-false}
use Rattle.std.proofs.lemmas.Bool.{and_left}
use Rattle.std.proofs.lemmas.Int.{ints}
use Rattle.std.proofs.lemmas.List.Elements.{All-append, All-cons, All-map, All-push}
use Rattle.grid_num.specs.Judging.{and_then}
use Rattle.grid_num.specs.Units.{is_inch_of}
use Rattle.grid_num.specs.declared.units.Units.{Units}
use Rattle.grid_num.specs.declared.units.Units.TheVariants.{Mm10, Mm100, Mm1000, In100, In1000}
use Rattle.grid_num.proofs.Texts.{decimal_number-decimal}
use Rattle.plane_exact.specs.Heights.{GridPlace}
use Rattle.plane_exact.specs.Nodes.{place_over}
use Rattle.plane_exact.specs.Plane.{GridPoint, IsOnGrid}
use Rattle.gcode_text.specs.Grammar.{empty_block, judge_other, judge_words, or_kind}
use Rattle.gcode_text.specs.Moves.{is_below, judge_move, moves_of, nowhere, spot_of}
use Rattle.gcode_text.specs.Path.{IsJob, closing_lines, end_line, height_line, moves_through, rapid, setup_lines, travel_line}
use Rattle.gcode_text.specs.Written.{WrittenLine, Note, Words, IsNote, IsWritten, block_of_line, code_text, moves_of_lines}
use Rattle.gcode_text.specs.declared.fault.CodeKind.TheVariants as kind
use Rattle.gcode_text.specs.declared.job.Job.{Job}
use Rattle.gcode_text.specs.declared.modal.Position.{Position}
use Rattle.gcode_text.specs.declared.modal.TheConstants.{MOST_MOVES}
use Rattle.gcode_text.specs.declared.written.Motion.TheVariants.{Rapid}
use Rattle.gcode_text.proofs.Codes.{moves_of-code_text}
use Rattle.gcode_text.proofs.Leading.{LeadThrough, at_place, led_through, passes_still}
use Rattle.gcode_text.proofs.Placing.{height_block, height_on, height_read, travel_block, travel_read}
use Rattle.gcode_text.proofs.Readable.{end_written, setup_written}

-- a title, the setup for a job, any lines, any notes and the end
abbrev pub framed_lines : (title : List ℕ) → Job → List WrittenLine → (notes : List (List ℕ)) → List WrittenLine
framed_lines title job lines notes = Note title ∷ (setup_lines job ++ (lines ++ closing_lines notes))

-- a program of which each line is read as it was meant
pub record IsProgram (title : List ℕ) (job : Job) (lines : List WrittenLine) (notes : List (List ℕ)) : Type 0 where
  pub titled : IsNote title
  pub of_job : IsJob job
  pub written : All IsWritten lines
  pub noted : All IsNote notes

-- ---- before the lines

-- only the height is known
abbrev pub raised : ℕ → Position
raised safe = record { x = None; y = None; z = Some (pos 10 *ℤ pos safe) }

pub units_read : (units : Units) → block_of_line units (Words (record { letter = 71; number = if is_inch_of units then codes "20" else codes "21" } ∷ [])) ≡ Ok empty_block
units_read Mm10 = refl
units_read Mm100 = refl
units_read Mm1000 = refl
units_read In100 = refl
units_read In1000 = refl

pub feed_read : (units : Units) (feed : ℕ) → feed ≤ 2 ^ 63 → block_of_line units (Words (record { letter = 70; number = decimal feed } ∷ [])) ≡ Ok (record empty_block { f = true })
feed_read units feed fits =
    ap (λ number. and_then (and_then (or_kind kind.Number number) (judge_other units empty_block 70)) (λ next. judge_words units next [])) (decimal_number-decimal feed fits)

pub not_below : (h : ℕ) → is_below (Some (pos 10 *ℤ pos h)) ≡ false
not_below h = grind (arith, ints)

raises : (safe : ℕ) → judge_move 5 0 nowhere (height_block (pos safe)) ≡ Ok None
raises safe = ap (λ below. cond (below && true) (Err kind.Unplaced) (Ok None)) (not_below safe)

-- the title and the setup, which is five lines, make no move
opened : (title : List ℕ) (job : Job) (lines : List WrittenLine) → IsJob job → moves_of_lines job.units 1 0 nowhere (Note title ∷ (setup_lines job ++ lines)) ≡ moves_of_lines job.units 6 0 (raised job.safe) lines
unfolding setup_lines
opened title job lines is_job =
    let units = job.units in
    let scale : WrittenLine = Words (record { letter = 71; number = if is_inch_of units then codes "20" else codes "21" } ∷ []) in
    let absolute : WrittenLine = Words (record { letter = 71; number = codes "90" } ∷ []) in
    let feed : WrittenLine = Words (record { letter = 70; number = decimal job.feed } ∷ []) in
    let up : WrittenLine = height_line units rapid (pos job.safe) in
    let slow = is_job.feed.high in
    passes_still units (Note title) 1 0 nowhere empty_block (scale ∷ (absolute ∷ (feed ∷ (up ∷ lines)))) refl refl refl
    ∙ passes_still units scale 2 0 nowhere empty_block (absolute ∷ (feed ∷ (up ∷ lines))) (units_read units) refl refl
    ∙ passes_still units absolute 3 0 nowhere empty_block (feed ∷ (up ∷ lines)) refl refl refl
    ∙ passes_still units feed 4 0 nowhere (record empty_block { f = true }) (up ∷ lines) (feed_read units job.feed (omega arith)) refl refl
    ∙ passes_still units up 5 0 nowhere (height_block (pos job.safe)) lines (height_read units Rapid (pos job.safe) (height_on job.safe is_job.safe.high)) (raises job.safe) refl

-- ---- behind the lines

-- notes and the end make no move, where the bit isn't below the surface at a place that isn't known
pub closed : (units : Units) (number count : ℕ) (old : Position) (notes : List (List ℕ)) → (is_below old.z && not (is_some (spot_of old))) ≡ false → moves_of_lines units number count old (closing_lines notes) ≡ Ok []
closed units number count old [] calm = rw calm refl
closed units number count old (note ∷ notes) calm =
    passes_still units (Note note) number count old empty_block (closing_lines notes) refl (rw calm refl) refl
    ∙ closed units (number + 1) count old notes calm

-- ---- whole programs

program_written : (title : List ℕ) (job : Job) (lines : List WrittenLine) (notes : List (List ℕ)) → IsProgram title job lines notes → All IsWritten (framed_lines title job lines notes)
program_written title job lines notes is =
    let closing = closing_lines notes in
    All-cons IsWritten (Note title) (setup_lines job ++ (lines ++ closing)) is.titled
    (All-append IsWritten (setup_lines job) (lines ++ closing) (setup_written job is.of_job)
    (All-append IsWritten lines closing is.written (All-push IsWritten (map Note notes) end_line (All-map IsWritten Note notes is.noted) end_written)))

abbrev pub framed_text : List ℕ → Job → List WrittenLine → List (List ℕ) → List ℕ
framed_text title job lines notes = code_text (framed_lines title job lines notes)

-- a program of no lines makes no move
pub nothing_read_back : (title : List ℕ) (job : Job) (notes : List (List ℕ)) → IsProgram title job [] notes → moves_of job.units (framed_text title job [] notes) ≡ Ok []
nothing_read_back title job notes is =
    moves_of-code_text job.units (framed_lines title job [] notes) (program_written title job [] notes is)
    ∙ opened title job (closing_lines notes) is.of_job
    ∙ closed job.units 6 0 (raised job.safe) notes (and_left _ true (not_below job.safe))

travels : (safe : ℕ) (p : GridPoint) → judge_move 6 0 (raised safe) (travel_block p) ≡ Ok None
travels safe p = ap (λ below. cond (below && true) (Err kind.Unplaced) (Ok None)) (not_below safe)

-- A program whose lines go over a point and lead from there through places is read as the moves through them. The sixth line
-- takes the bit over the point, and as its place isn't known before, that is no move.
pub led_read_back : (title : List ℕ) (job : Job) (first : GridPoint) (lines : List WrittenLine) (places : List GridPlace) (notes : List (List ℕ)) → IsProgram title job (travel_line job.units first ∷ lines) notes → IsOnGrid first.x first.y → LeadThrough job.units (place_over first (pos job.safe)) lines places → length places ≤ MOST_MOVES → moves_of job.units (framed_text title job (travel_line job.units first ∷ lines) notes) ≡ Ok (moves_through 7 (place_over first (pos job.safe)) places)
led_read_back title job first lines places notes is on leads few =
    let travel = travel_line job.units first in
    let rest = lines ++ closing_lines notes in
    moves_of-code_text job.units (framed_lines title job (travel ∷ lines) notes) (program_written title job (travel ∷ lines) notes is)
    ∙ opened title job (travel ∷ rest) is.of_job
    ∙ passes_still job.units travel 6 0 (raised job.safe) (travel_block first) rest (travel_read job.units first on) (travels job.safe first) refl
    ∙ led_through job.units 7 0 (place_over first (pos job.safe)) lines places (closing_lines notes) leads (omega arith)
    (λ number count at. closed job.units number count (at_place at) notes (and-false (is_below (Some at.h))))
