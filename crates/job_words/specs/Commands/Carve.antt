-- `carve`: the G-code program that carves a drawing.
use Rattle.std.specs.Prelude.{ℕ, Option, Some, None, List, ◌∷◌, codes}
use Rattle.plane_exact.specs.Cone.{IsCone, IsFromOneTo}
use Rattle.job_words.specs.Options.{OptionRow}
use Rattle.job_words.specs.Command.{Command, always_fits, needed, optional}
use Rattle.job_words.specs.Shape.{shape_of, shape_options}
use Rattle.job_words.specs.Values.{bit_of, feed_of, limit_of, over_of, pitch_of, pocket_of, rmax_of, safe_of, step_of}
use Rattle.job_words.specs.declared.request.DrawingWords.{DrawingWords}
use Rattle.job_words.specs.declared.request.PocketWord.{PocketWord}
use Rattle.job_words.specs.declared.request.Request.{Request}
use Rattle.job_words.specs.declared.request.Request.TheVariants as request

-- the request, where each of its values is there
abbrev pub carve_by : Option (ℕ × ℕ) → (rmax step limit safe feed pitch : Option ℕ) → Option PocketWord → (over : Option ℕ) → Option DrawingWords → Option Request
carve_by (Some bit) (Some rmax) (Some step) (Some limit) (Some safe) (Some feed) (Some pitch) (Some lines) (Some over) (Some shape) = Some (request.Carve shape bit rmax step limit safe feed pitch lines over)
carve_by _ _ _ _ _ _ _ _ _ _ = None

-- the request of the values of its options
unfoldable pub carve_request : (List ℕ → Option (List ℕ)) → Option Request
carve_request value =
    carve_by (bit_of (value (codes "bit"))) (rmax_of (value (codes "rmax"))) (step_of (value (codes "step"))) (limit_of (value (codes "limit")))
    (safe_of (value (codes "safe"))) (feed_of (value (codes "feed"))) (pitch_of (value (codes "pitch")))
    (pocket_of (value (codes "pocket"))) (over_of (value (codes "over"))) (shape_of value)

-- its options
unfoldable pub carve_options : List OptionRow
carve_options =
    needed (codes "bit") ∷ needed (codes "rmax") ∷ needed (codes "step") ∷ optional (codes "limit") ∷ optional (codes "safe") ∷ optional (codes "feed")
    ∷ optional (codes "pitch") ∷ optional (codes "pocket") ∷ optional (codes "over") ∷ shape_options

-- the command
abbrev pub carve : Command
carve = record {
  name = codes "carve";
  options = carve_options;
  request = carve_request;
  fits = always_fits;
}

-- the ranges of its numbers
pub record IsCarveInRange (bit : ℕ × ℕ) (rmax step limit safe feed pitch over : ℕ) : Type 0 where
  pub bit_and_rmax : IsCone bit.0 bit.1 rmax
  pub step_is : IsFromOneTo 32767 step
  pub limit_is : IsFromOneTo 32767 limit
  pub safe_is : IsFromOneTo 32767 safe
  pub feed_is : IsFromOneTo 10000 feed
  pub pitch_is : IsFromOneTo 32767 pitch
  pub over_is : IsFromOneTo 8191 over
