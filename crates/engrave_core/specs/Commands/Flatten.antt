-- What is due for `flatten`: the drawing in loops form.
use Rattle.std.specs.Prelude.{◌≡◌, ℕ, Option, Some, None, List, [], ◌++◌, codes, decimal}
use Rattle.job_words.specs.declared.request.DrawingWords.{DrawingWords}
use Rattle.loops_text.specs.Writing.{written_loops}
use Rattle.engrave_core.specs.Drawing.{IsGivenByDrawing, ReadDrawing}
use Rattle.engrave_core.specs.Refusals.{IsRefusalOfDrawing}
use Rattle.engrave_core.specs.Stored.{Files}
use Rattle.engrave_core.specs.declared.outcome.Outcome.{Outcome}
use Rattle.engrave_core.specs.declared.outcome.Outcome.TheVariants.{Done}

-- # skipped COUNT, where the drawing's form skips entities
abbrev pub skipped_line : Option ℕ → List ℕ
skipped_line None = []
skipped_line (Some count) = codes "# skipped " ++ decimal count ++ codes "\n"

-- Done, with the loops, a line each
pub record IsFlattened (drawing : ReadDrawing) (outcome : Outcome) (text : List ℕ) : Type 0 where
  pub done : outcome ≡ Done
  pub lines : text ≡ skipped_line drawing.skipped ++ written_loops drawing.loops

-- what is due for the drawing, or the refusal of it
abbrev pub IsDueOfFlatten : Files → DrawingWords → Outcome → List ℕ → Type 0
IsDueOfFlatten files shape outcome text = IsGivenByDrawing IsFlattened files shape outcome text

-- the refusals of the drawing
abbrev pub IsRefusalOfFlatten : DrawingWords → Outcome → Type 0
IsRefusalOfFlatten shape outcome = IsRefusalOfDrawing shape outcome
