-- The lines of a report on what a program leaves.
use Rattle.std.specs.Prelude.{ℕ, ◌<◌, ◌^◌, List, [], ◌∷◌, ◌++◌, map, flat_map, All, codes, decimal}
use Rattle.grid_num.specs.Written.{decimal_text}
use Rattle.plane_exact.specs.Uncut.{GridRun, IsRun, UncutPoints}
use Rattle.gcode_text.specs.declared.report.Subject.{Subject}
use Rattle.gcode_text.specs.declared.report.Subject.TheVariants.{Uncut, Floor}

-- the word with which each line of the report begins
abbrev pub subject_word : Subject → List ℕ
subject_word Uncut = codes "uncut"
subject_word Floor = codes "floor"

-- WORD y Y x X0 to X1, in grid units
unfoldable pub run_line : Subject → GridRun → List ℕ
run_line subject run =
    subject_word subject ++ (codes " y " ++ (decimal_text 0 run.y ++ (codes " x " ++ (decimal_text 0 run.x0 ++ (codes " to " ++ decimal_text 0 run.x1)))))

-- WORD LEFT of DRAWING
unfoldable pub count_line : Subject → UncutPoints → List ℕ
count_line subject uncut = subject_word subject ++ (codes " " ++ (decimal uncut.left ++ (codes " of " ++ decimal uncut.drawing)))

-- a line for each run, and then the counts
abbrev pub report_lines : Subject → UncutPoints → List (List ℕ)
report_lines subject uncut = map (run_line subject) uncut.runs ++ count_line subject uncut ∷ []

-- the text of lines, each between the same two texts
abbrev pub lines_between : (before behind : List ℕ) → List (List ℕ) → List ℕ
lines_between before behind lines = flat_map (λ line. before ++ (line ++ behind)) lines

-- the ranges of the numbers of a report
pub record IsReport (uncut : UncutPoints) : Type 0 where
  pub runs : All (λ run. IsRun run.y run.x0 run.x1) uncut.runs
  pub drawing : uncut.drawing < 2 ^ 64
  pub left : uncut.left < 2 ^ 64
