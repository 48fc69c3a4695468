-- What is due for `probe`: the greatest depth at one point of a drawing.
use Rattle.std.specs.Prelude.{◌≡◌, ℕ, List, ◌++◌, codes, decimal}
use Rattle.engrave_model.specs.Depth.{IsGreatestDepth}
use Rattle.engrave_model.specs.Drawing.{edges_of}
use Rattle.job_words.specs.declared.request.DrawingWords.{DrawingWords}
use Rattle.plane_exact.specs.Cone.{Cone}
use Rattle.plane_exact.specs.Plane.{GridPoint}
use Rattle.engrave_core.specs.Drawing.{IsGivenByDrawing}
use Rattle.engrave_core.specs.Refusals.{IsRefusalOfDrawing}
use Rattle.engrave_core.specs.Stored.{Files}
use Rattle.engrave_core.specs.declared.outcome.Outcome.{Outcome}
use Rattle.engrave_core.specs.declared.outcome.Outcome.TheVariants.{Done}

-- depth Z
pub record IsProbeText (at : GridPoint) (bit : Cone) (limit : ℕ) (loops : List (List GridPoint)) (text : List ℕ) : Type 0 where
  pub depth : ℕ
  pub greatest : IsGreatestDepth (edges_of loops) bit limit at depth
  pub line : text ≡ codes "depth " ++ decimal depth ++ codes "\n"

-- Done, with the line of the greatest depth at the point
pub record IsProbed (at : GridPoint) (bit : Cone) (limit : ℕ) (loops : List (List GridPoint)) (outcome : Outcome) (text : List ℕ) : Type 0 where
  pub done : outcome ≡ Done
  pub depth : IsProbeText at bit limit loops text

-- the greatest depth at the point of the drawing, or the refusal of it
abbrev pub IsDueOfProbe : Files → DrawingWords → GridPoint → Cone → ℕ → Outcome → List ℕ → Type 0
IsDueOfProbe files shape at bit limit outcome text =
    IsGivenByDrawing (λ drawing. IsProbed at bit limit drawing.loops) files shape outcome text

-- the refusals of the drawing
abbrev pub IsRefusalOfProbe : DrawingWords → Outcome → Type 0
IsRefusalOfProbe shape outcome = IsRefusalOfDrawing shape outcome
