-- The report of a program: each of its lines is read as a note, and its text is that of notes.
use Rattle.std.specs.Prelude.{codes, flat_map, map}
use Rattle.std.proofs.Common.{◌≡◌, ℕ, ◌/◌, ◌^◌, suc, List, [], ◌∷◌, ◌++◌, ℤ, pos, negsuc, sym, ap, ◌∙◌, refl, arith, append_assoc}
use Rattle.std.specs.List.{All}
use Rattle.std.proofs.lemmas.List.Elements.{All-map, All-push, All-weaker}
use Rattle.grid_num.specs.Written.{decimal_text}
use Rattle.plane_exact.specs.Nodes.{GridNode}
use Rattle.plane_exact.specs.Uncut.{GridRun, IsRun, UncutPoints}
use Rattle.gcode_text.specs.Path.{end_line, path_text, titled_text}
use Rattle.gcode_text.specs.Report.{IsReport, count_line, lines_between, report_lines, run_line, subject_word}
use Rattle.gcode_text.specs.Written.{Note, IsNote, code_text, is_note_byte}
use Rattle.gcode_text.specs.declared.job.Job.{Job}
use Rattle.gcode_text.specs.declared.report.Subject.{Subject}
use Rattle.gcode_text.specs.declared.report.Subject.TheVariants.{Uncut, Floor}
use Rattle.gcode_text.proofs.Growing.{titled_written}
use Rattle.gcode_text.proofs.Readable.{AreBytes, is_note, joined, noted}

-- ---- its notes

-- a number of a note, with its sign
signed : (v : ℤ) → AreBytes is_note_byte 65 (decimal_text 0 v)
signed (pos n) =
    let nothing : AreBytes is_note_byte 1 [] = record { each = refl; short = omega arith } in
    joined (noted (n / 10 ^ 0)) nothing
signed (negsuc n) =
    let minus : AreBytes is_note_byte 1 (45 ∷ []) = record { each = refl; short = omega arith } in
    let nothing : AreBytes is_note_byte 0 [] = record { each = refl; short = omega arith } in
    joined minus (joined (noted (suc n / 10 ^ 0)) nothing)

word_noted : (subject : Subject) → AreBytes is_note_byte 5 (subject_word subject)
word_noted Uncut = record { each = refl; short = omega arith }
word_noted Floor = record { each = refl; short = omega arith }

run_noted : (subject : Subject) (run : GridRun) → IsNote (run_line subject run)
unfolding run_line
run_noted subject run =
    let row : AreBytes is_note_byte 3 (codes " y ") = record { each = refl; short = omega arith } in
    let from : AreBytes is_note_byte 3 (codes " x ") = record { each = refl; short = omega arith } in
    let to : AreBytes is_note_byte 4 (codes " to ") = record { each = refl; short = omega arith } in
    is_note (joined (word_noted subject) (joined row (joined (signed run.y) (joined from (joined (signed run.x0) (joined to (signed run.x1))))))) (omega arith)

count_noted : (subject : Subject) (uncut : UncutPoints) → IsNote (count_line subject uncut)
unfolding count_line
count_noted subject uncut =
    let left : AreBytes is_note_byte 1 (codes " ") = record { each = refl; short = omega arith } in
    let of : AreBytes is_note_byte 4 (codes " of ") = record { each = refl; short = omega arith } in
    is_note (joined (word_noted subject) (joined left (joined (noted uncut.left) (joined of (noted uncut.drawing))))) (omega arith)

-- each line of a report is read as a note
pub report_noted : (subject : Subject) (uncut : UncutPoints) → IsReport uncut → All IsNote (report_lines subject uncut)
report_noted subject uncut is =
    let line = run_line subject in
    All-push IsNote (map line uncut.runs) (count_line subject uncut)
    (All-map IsNote line uncut.runs (All-weaker (λ run. IsRun run.y run.x0 run.x1) (λ run. IsNote (line run)) (λ run on. run_noted subject run) uncut.runs is.runs))
    (count_noted subject uncut)

-- ---- its text

-- lines between brackets are notes
notes_text : (lines : List (List ℕ)) → lines_between (codes "(") (codes ")\n") lines ≡ code_text (map Note lines)
notes_text [] = refl
notes_text (line ∷ lines) =
    ap (λ text. (40 ∷ text) ++ lines_between (codes "(") (codes ")\n") lines) (sym (append_assoc line (41 ∷ []) (10 ∷ [])))
    ∙ ap (λ text. (40 ∷ ((line ++ 41 ∷ []) ++ 10 ∷ [])) ++ text) (notes_text lines)

-- the text of the runs, one after the other
pub runs_text : (subject : Subject) (before behind : List ℕ) (runs : List GridRun)
    → flat_map (λ run. before ++ (run_line subject run ++ behind)) runs ≡ lines_between before behind (map (run_line subject) runs)
runs_text subject before behind [] = refl
runs_text subject before behind (run ∷ runs) = ap (λ text. (before ++ (run_line subject run ++ behind)) ++ text) (runs_text subject before behind runs)

-- the text of the path, the report and the end is that of the program of this title with the report as its notes
pub reported_written : (subject : Subject) (note : List ℕ) (job : Job) (chains : List (List GridNode)) (uncut : UncutPoints) (title path reported whole : List ℕ) → title ≡ note
    → path ≡ path_text title job chains → reported ≡ path ++ lines_between (codes "(") (codes ")\n") (report_lines subject uncut)
    → whole ≡ reported ++ code_text (end_line ∷ []) → whole ≡ titled_text note job chains (report_lines subject uncut)
reported_written subject note job chains uncut title path reported whole title_is path_is reported_is whole_is =
    titled_written note job chains (report_lines subject uncut) path reported whole (path_is ∙ ap (λ title. path_text title job chains) title_is)
    (reported_is ∙ ap (λ text. path ++ text) (notes_text (report_lines subject uncut))) whole_is
