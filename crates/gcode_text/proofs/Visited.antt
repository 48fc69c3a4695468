-- The program of a path of visits: how its lines grow, and that it is read back as exactly the moves through the visits.
use Rattle.std.specs.Prelude.{codes, decimal, if◌then◌else◌, unsigned_abs}
use Rattle.std.proofs.Common.{◌≡◌, ℕ, ◌+◌, ◌*◌, ◌^◌, ◌<◌, ◌≤◌, true, false, ◌&&◌, cond, Some, None, List, [], ◌∷◌, ◌++◌, length, get_or, drop, is_some, ℤ, pos, negsuc, ◌*ℤ◌, Ok, Err, sym, ap, ◌∙◌, refl, arith, append_assoc}
use Rattle.std.specs.List.{All}
use Rattle.std.proofs.Math.Bool.{and-false}
use Rattle.std.proofs.lemmas.Int.{ints}
use Rattle.std.proofs.lemmas.List.{append-nil, drop_all, drop_more}
use Rattle.std.proofs.lemmas.List.Elements.{All-append, All-cons, All-from_recursion, All-head, All-nil, All-push, All-tail}
use Rattle.grid_num.specs.Units.{is_inch_of, per_unit_of}
use Rattle.grid_num.specs.Written.{decimal_text, zeros_of}
use Rattle.grid_num.specs.declared.units.Units.{Units}
use Rattle.grid_num.specs.declared.units.Units.TheVariants.{Mm10, Mm100, Mm1000, In100, In1000}
use Rattle.grid_num.specs.Decimal.{times_scale}
use Rattle.grid_num.proofs.Texts.{number_of, times_scale-number_of, zeros_of-le}
use Rattle.plane_exact.specs.Heights.{GridPlace, IsFineCoordinate, IsHeight}
use Rattle.plane_exact.specs.Plane.{GridPoint}
use Rattle.gcode_text.specs.Grammar.{empty_block, judge_word, or_kind, tenths_of}
use Rattle.gcode_text.specs.Moves.{is_below, judge_move, nowhere}
use Rattle.gcode_text.specs.Path.{end_line, motion_word}
use Rattle.gcode_text.specs.Visits.{IsVisit, VisitsReadBackLaw, opening_lines, over_line, repair_note, rise_line, spot_line, spot_over, tenths_word, visit_line, visit_lines, visit_moves, visiting_lines, visits_lines, visits_text}
use Rattle.gcode_text.specs.Written.{Note, WrittenLine, Words, IsNote, IsWord, IsWritten, block_of_line, code_text, is_note_byte, moves_of_lines}
use Rattle.gcode_text.specs.declared.block.Block.{Block}
use Rattle.gcode_text.specs.declared.fault.CodeKind.TheVariants as kind
use Rattle.gcode_text.specs.declared.written.Motion.{Motion}
use Rattle.gcode_text.specs.declared.written.Motion.TheVariants.{Rapid, Straight}
use Rattle.gcode_text.proofs.Codes.{moves_of-code_text}
use Rattle.gcode_text.proofs.Frames.{closed, feed_read, not_below, raised, units_read}
use Rattle.gcode_text.proofs.Growing.{code_text-append}
use Rattle.gcode_text.proofs.Leading.{LeadThrough, Leads, at_place, led_through, passes_still}
use Rattle.gcode_text.proofs.Placing.{and_words, moving, number_read}
use Rattle.gcode_text.proofs.Readable.{AreBytes, end_written, joined, motion_written, noted, text_bytes, units_bytes, whole_bytes, word_line, word_with, words_written}

-- ---- its text

-- a visit more
pub visit_more : (units : Units) (before visit : GridPlace) (visits : List GridPlace) (i : ℕ) (now next whole : List ℕ) → i < length visits → visit ≡ get_or visits i visit
    → now ++ code_text (visit_lines units before (drop i visits)) ≡ whole → next ≡ now ++ code_text (visit_line units before visit ∷ [])
    → next ++ code_text (visit_lines units visit (drop (i + 1) visits)) ≡ whole
visit_more units before visit visits i now next whole inside read is more =
    let line = visit_line units before visit in
    let later = drop (i + 1) visits in
    let rest = visit_lines units visit later in
    let left : visit ∷ later ≡ drop i visits = ap (λ visit. visit ∷ later) read ∙ sym (drop_more visits i visit inside) in
    ap (λ text. text ++ code_text rest) more
    ∙ append_assoc now (code_text (line ∷ [])) (code_text rest)
    ∙ ap (λ text. now ++ text) (sym (code_text-append (line ∷ []) rest))
    ∙ ap (λ visits. now ++ code_text (visit_lines units before visits)) left
    ∙ is

-- no visit is left
pub visits_done : (units : Units) (before : GridPlace) (visits : List GridPlace) (i : ℕ) (now whole : List ℕ) → length visits ≤ i
    → now ++ code_text (visit_lines units before (drop i visits)) ≡ whole → now ≡ whole
visits_done units before visits i now whole past is =
    sym (append-nil now) ∙ ap (λ left. now ++ code_text (visit_lines units before left)) (sym (drop_all i visits past)) ∙ is

-- over the first visit's point, and through all of them
pub path_written : (units : Units) (safe : ℕ) (visits : List GridPlace) (first start : GridPlace) (now over whole : List ℕ) → 1 ≤ length visits → first ≡ get_or visits 0 first → start ≡ spot_over safe first.at
    → over ≡ now ++ code_text (over_line units start.at ∷ []) → whole ≡ over ++ code_text (visit_lines units start visits) → whole ≡ now ++ code_text (visiting_lines units safe visits)
path_written units safe [] first start now over whole some is starts goes through = absurd (omega arith)
path_written units safe (visit ∷ rest) first start now over whole some is starts goes through =
    let from = starts ∙ ap (λ (spot : GridPlace). spot_over safe spot.at) is in
    let lines = visit_lines units (spot_over safe visit.at) (visit ∷ rest) in
    through
    ∙ ap (λ text. text ++ code_text (visit_lines units start (visit ∷ rest))) goes
    ∙ ap (λ (spot : GridPlace). (now ++ code_text (over_line units spot.at ∷ [])) ++ code_text (visit_lines units spot (visit ∷ rest))) from
    ∙ append_assoc now (code_text (over_line units visit.at ∷ [])) (code_text lines)
    ∙ ap (λ text. now ++ text) (sym (code_text-append (over_line units visit.at ∷ []) lines))

-- the text of the note, the opening, the path and the end is that of the program
pub text_written : (units : Units) (safe feed changed count : ℕ) (visits : List GridPlace) (titled ready gone whole : List ℕ) → titled ≡ code_text (Note (repair_note changed count) ∷ [])
    → ready ≡ titled ++ code_text (opening_lines units safe feed) → gone ≡ ready ++ code_text (visiting_lines units safe visits) → whole ≡ gone ++ code_text (end_line ∷ [])
    → whole ≡ visits_text units safe feed changed count visits
unfolding visits_text
text_written units safe feed changed count visits titled ready gone whole title opens goes ends =
    let note = Note (repair_note changed count) ∷ [] in
    let opening = opening_lines units safe feed in
    let path = visiting_lines units safe visits in
    let closing = end_line ∷ [] in
    let front = code_text note in
    let behind = code_text path ++ code_text closing in
    ends
    ∙ ap (λ text. text ++ code_text closing) (goes ∙ ap (λ text. text ++ code_text path) (opens ∙ ap (λ text. text ++ code_text opening) title))
    ∙ append_assoc (front ++ code_text opening) (code_text path) (code_text closing)
    ∙ append_assoc front (code_text opening) behind
    ∙ ap (λ text. front ++ (code_text opening ++ text)) (sym (code_text-append path closing))
    ∙ ap (λ text. front ++ text) (sym (code_text-append opening (path ++ closing)))
    ∙ sym (code_text-append note (opening ++ (path ++ closing)))

-- ---- a length in tenths of a grid unit

-- the scale of tenths is the power of ten that has as many zeros as there are digits behind the point
scale_is : (units : Units) → 1 * 10 ^ zeros_of (10 * per_unit_of units) ≡ 10 * per_unit_of units
scale_is Mm10 = refl
scale_is Mm100 = refl
scale_is Mm1000 = refl
scale_is In100 = refl
scale_is In1000 = refl

once_is : (v : ℤ) → pos 1 *ℤ v ≡ v
once_is v = omega (arith, ints)

abbrev places_in : Units → ℕ
places_in units = zeros_of (10 * per_unit_of units)

few_places : (units : Units) → places_in units ≤ 6
few_places units = omega (arith, zeros_of-le (10 * per_unit_of units))

tenths_read : (units : Units) (v : ℤ) → tenths_of units (number_of (places_in units) v) ≡ Ok v
tenths_read units v =
    ap (λ scale. or_kind kind.OffGrid (times_scale scale (number_of (places_in units) v))) (sym (scale_is units))
    ∙ ap (or_kind kind.OffGrid) (times_scale-number_of 1 (places_in units) v)
    ∙ ap Ok (once_is v)

small : (v : ℤ) → IsFineCoordinate v → unsigned_abs v ≤ 2 ^ 63
small v on =
    let from = on.low in
    let to = on.high in
    omega (arith, ints)

height_fine : (h : ℤ) → IsHeight h → IsFineCoordinate h
height_fine h on =
    let from = on.low in
    let to = on.high in
    record { low = omega (arith, ints); high = omega (arith, ints) }

safe_height : (safe : ℕ) → safe ≤ 32767 → IsHeight (pos (10 * safe))
safe_height safe most = record { low = omega (arith, ints); high = omega (arith, ints) }

x_read : (units : Units) (block : Block) (v : ℤ) → IsFineCoordinate v → is_some block.x ≡ false → judge_word units block (tenths_word units 88 v) ≡ Ok (record block { x = Some v })
x_read units block v on first =
    number_read units (places_in units) v v (negsuc 327679) (pos 327670) (is_some block.x) (λ x. record block { x = Some x }) (few_places units) (small v on) (tenths_read units v) on first

y_read : (units : Units) (block : Block) (v : ℤ) → IsFineCoordinate v → is_some block.y ≡ false → judge_word units block (tenths_word units 89 v) ≡ Ok (record block { y = Some v })
y_read units block v on first =
    number_read units (places_in units) v v (negsuc 327679) (pos 327670) (is_some block.y) (λ y. record block { y = Some y }) (few_places units) (small v on) (tenths_read units v) on first

z_read : (units : Units) (block : Block) (h : ℤ) → IsHeight h → is_some block.z ≡ false → judge_word units block (tenths_word units 90 h) ≡ Ok (record block { z = Some h })
z_read units block h on first =
    number_read units (places_in units) h h (negsuc 327669) (pos 327670) (is_some block.z) (λ z. record block { z = Some z }) (few_places units) (small h (height_fine h on)) (tenths_read units h)
    (record { low = on.low; high = on.high }) first

tenths_written : (units : Units) (letter : ℕ) (v : ℤ) → 65 ≤ letter → letter ≤ 90 → IsFineCoordinate v → IsWord (tenths_word units letter v)
tenths_written units letter v low high on =
    word_with letter (decimal_text (places_in units) v) low high (text_bytes (places_in units) v (few_places units) (small v on))

-- ---- the lines

-- the blocks of lines
abbrev rise_block : ℕ → Block
rise_block safe = record moving { z = Some (pos (10 * safe)) }

abbrev over_block : GridPoint → Block
over_block p = record moving { x = Some p.x; y = Some p.y }

abbrev spot_block : GridPlace → Block
spot_block spot = record (over_block spot.at) { z = Some spot.h }

rise_read : (units : Units) (safe : ℕ) → safe ≤ 32767 → block_of_line units (rise_line units safe) ≡ Ok (rise_block safe)
rise_read units safe most = ap (and_words units []) (z_read units moving (pos (10 * safe)) (safe_height safe most) refl)

over_read : (units : Units) (p : GridPoint) → IsFineCoordinate p.x → IsFineCoordinate p.y → block_of_line units (over_line units p) ≡ Ok (over_block p)
over_read units p across up =
    ap (and_words units (tenths_word units 89 p.y ∷ [])) (x_read units moving p.x across refl)
    ∙ ap (and_words units []) (y_read units (record moving { x = Some p.x }) p.y up refl)

spot_read : (units : Units) (motion : Motion) (spot : GridPlace) → IsVisit spot → block_of_line units (spot_line units motion spot) ≡ Ok (spot_block spot)
spot_read units motion spot on = by motion
  where
    words_read : block_of_line units (spot_line units Rapid spot) ≡ Ok (spot_block spot)
    words_read =
        ap (and_words units (tenths_word units 89 spot.at.y ∷ tenths_word units 90 spot.h ∷ [])) (x_read units moving spot.at.x on.across refl)
        ∙ ap (and_words units (tenths_word units 90 spot.h ∷ [])) (y_read units (record moving { x = Some spot.at.x }) spot.at.y on.up refl)
        ∙ ap (and_words units []) (z_read units (over_block spot.at) spot.h on.height refl)

    by : (motion : Motion) → block_of_line units (spot_line units motion spot) ≡ Ok (spot_block spot)
    by Rapid = words_read
    by Straight = words_read

spot_leads : (units : Units) (from spot : GridPlace) (motion : Motion) → IsVisit spot → Leads units from (spot_line units motion spot) spot
spot_leads units from spot motion on =
    record { block = spot_block spot; reads = spot_read units motion spot on; names = refl; goes_on = refl; reaches = refl }

visits_lead : (units : Units) (before : GridPlace) (visits : List GridPlace) → All IsVisit visits → LeadThrough units before (visit_lines units before visits) visits
visits_lead units before [] are = tt
visits_lead units before (visit ∷ visits) are =
    (spot_leads units before visit _ (All-head IsVisit visit visits are), visits_lead units visit visits (All-tail IsVisit visit visits are))

-- ---- that they are read as they were meant

rise_written : (units : Units) (safe : ℕ) → safe ≤ 32767 → IsWritten (rise_line units safe)
rise_written units safe most =
    let h = pos (10 * safe) in
    words_written (motion_word Rapid ∷ tenths_word units 90 h ∷ [])
    (motion_written Rapid, (tenths_written units 90 h (omega arith) (omega arith) (height_fine h (safe_height safe most)), tt)) (omega arith)

over_written : (units : Units) (p : GridPoint) → IsFineCoordinate p.x → IsFineCoordinate p.y → IsWritten (over_line units p)
over_written units p across up =
    words_written (motion_word Rapid ∷ tenths_word units 88 p.x ∷ tenths_word units 89 p.y ∷ [])
    (motion_written Rapid, (tenths_written units 88 p.x (omega arith) (omega arith) across, (tenths_written units 89 p.y (omega arith) (omega arith) up, tt))) (omega arith)

spot_written : (units : Units) (motion : Motion) (spot : GridPlace) → IsVisit spot → IsWritten (spot_line units motion spot)
spot_written units motion spot on =
    words_written (motion_word motion ∷ tenths_word units 88 spot.at.x ∷ tenths_word units 89 spot.at.y ∷ tenths_word units 90 spot.h ∷ [])
    (motion_written motion, (tenths_written units 88 spot.at.x (omega arith) (omega arith) on.across, (tenths_written units 89 spot.at.y (omega arith) (omega arith) on.up, (tenths_written units 90 spot.h (omega arith) (omega arith) (height_fine spot.h on.height), tt)))) (omega arith)

visits_written : (units : Units) (before : GridPlace) (visits : List GridPlace) → All IsVisit visits → All IsWritten (visit_lines units before visits)
visits_written units before [] are = All-nil IsWritten
visits_written units before (visit ∷ visits) are =
    All-cons IsWritten (visit_line units before visit) (visit_lines units visit visits) (spot_written units _ visit (All-head IsVisit visit visits are))
    (visits_written units visit visits (All-tail IsVisit visit visits are))

visiting_written : (units : Units) (safe : ℕ) (visits : List GridPlace) → All IsVisit visits → All IsWritten (visiting_lines units safe visits)
visiting_written units safe [] are = All-nil IsWritten
visiting_written units safe (first ∷ rest) are =
    let on = All-head IsVisit first rest are in
    let start = spot_over safe first.at in
    All-cons IsWritten (over_line units first.at) (visit_lines units start (first ∷ rest)) (over_written units first.at on.across on.up)
    (visits_written units start (first ∷ rest) are)

opening_written : (units : Units) (safe feed : ℕ) → safe ≤ 32767 → feed ≤ 10000 → All IsWritten (opening_lines units safe feed)
opening_written units safe feed most slow =
    let digits = whole_bytes feed (omega arith) in
    let short = digits.short in
    All-from_recursion IsWritten (opening_lines units safe feed) (
      word_line 71 (if is_inch_of units then codes "20" else codes "21") (omega arith) (omega arith) (units_bytes (is_inch_of units)),
      (
        word_line 71 (codes "90") (omega arith) (omega arith) (record { each = refl; short = omega arith }),
        (
          word_line 70 (decimal feed) (omega arith) (omega arith) (record { each = digits.each; short = omega arith }),
          (rise_written units safe most, tt),
        ),
      ),
    )

repair_note_is : (changed count : ℕ) → IsNote (repair_note changed count)
repair_note_is changed count =
    let repaired : AreBytes is_note_byte 9 (codes "repaired ") = record { each = refl; short = omega arith } in
    let of : AreBytes is_note_byte 4 (codes " of ") = record { each = refl; short = omega arith } in
    let bytes = joined repaired (joined (noted changed) (joined of (noted count))) in
    let short = bytes.short in
    record { bytes = bytes.each; short = omega arith }

lines_written : (units : Units) (safe feed changed count : ℕ) (visits : List GridPlace) → safe ≤ 32767 → feed ≤ 10000 → All IsVisit visits → All IsWritten (Note (repair_note changed count) ∷ visits_lines units safe feed visits)
lines_written units safe feed changed count visits most slow are =
    let path = visiting_lines units safe visits in
    All-cons IsWritten (Note (repair_note changed count)) (visits_lines units safe feed visits) (repair_note_is changed count)
    (All-append IsWritten (opening_lines units safe feed) (path ++ end_line ∷ []) (opening_written units safe feed most slow)
    (All-push IsWritten path end_line (visiting_written units safe visits are) end_written))

-- ---- its moves

-- the note and the four lines behind it make no move
opened : (units : Units) (safe feed : ℕ) (note : List ℕ) (lines : List WrittenLine) → safe ≤ 32767 → feed ≤ 10000 → moves_of_lines units 1 0 nowhere (Note note ∷ (opening_lines units safe feed ++ lines)) ≡ moves_of_lines units 6 0 (raised safe) lines
opened units safe feed note lines most slow =
    let scale : WrittenLine = Words (record { letter = 71; number = if is_inch_of units then codes "20" else codes "21" } ∷ []) in
    let absolute : WrittenLine = Words (record { letter = 71; number = codes "90" } ∷ []) in
    let feeds : WrittenLine = Words (record { letter = 70; number = decimal feed } ∷ []) in
    let up = rise_line units safe in
    let raises : judge_move 5 0 nowhere (rise_block safe) ≡ Ok None = ap (λ below. cond (below && true) (Err kind.Unplaced) (Ok None)) (not_below safe) in
    passes_still units (Note note) 1 0 nowhere empty_block (scale ∷ (absolute ∷ (feeds ∷ (up ∷ lines)))) refl refl refl
    ∙ passes_still units scale 2 0 nowhere empty_block (absolute ∷ (feeds ∷ (up ∷ lines))) (units_read units) refl refl
    ∙ passes_still units absolute 3 0 nowhere empty_block (feeds ∷ (up ∷ lines)) refl refl refl
    ∙ passes_still units feeds 4 0 nowhere (record empty_block { f = true }) (up ∷ lines) (feed_read units feed (omega arith)) refl refl
    ∙ passes_still units up 5 0 nowhere (rise_block safe) lines (rise_read units safe most) raises refl

-- over the first point, and through the visits
visited : (units : Units) (safe : ℕ) (visits : List GridPlace) → All IsVisit visits → length visits ≤ 8388608 → moves_of_lines units 6 0 (raised safe) (visiting_lines units safe visits ++ end_line ∷ []) ≡ Ok (visit_moves safe visits)
visited units safe [] are few = closed units 6 0 (raised safe) [] (ap (λ below. below && true) (not_below safe))
visited units safe (first ∷ rest) are few =
    let on = All-head IsVisit first rest are in
    let over = over_line units first.at in
    let start = spot_over safe first.at in
    let lines = visit_lines units start (first ∷ rest) in
    let travels : judge_move 6 0 (raised safe) (over_block first.at) ≡ Ok None = ap (λ below. cond (below && true) (Err kind.Unplaced) (Ok None)) (not_below safe) in
    passes_still units over 6 0 (raised safe) (over_block first.at) (lines ++ end_line ∷ []) (over_read units first.at on.across on.up) travels refl
    ∙ led_through units 7 0 start lines (first ∷ rest) (end_line ∷ []) (visits_lead units start (first ∷ rest) are) (omega arith)
    (λ number count at. closed units number count (at_place at) [] (and-false (is_below (Some at.h))))

pub visits_read_back : VisitsReadBackLaw
unfolding visits_text
visits_read_back units safe feed changed count visits is_safe is_feed are few =
    let note = repair_note changed count in
    let path = visiting_lines units safe visits in
    moves_of-code_text units (Note note ∷ visits_lines units safe feed visits) (lines_written units safe feed changed count visits is_safe.high is_feed.high are)
    ∙ opened units safe feed note (path ++ end_line ∷ []) is_safe.high is_feed.high
    ∙ visited units safe visits are few
