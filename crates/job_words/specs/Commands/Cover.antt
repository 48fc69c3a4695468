-- `cover`: what a G-code program leaves uncut of a drawing.
use Rattle.std.specs.Prelude.{ℕ, Option, Some, None, List, ◌∷◌, codes}
use Rattle.plane_exact.specs.Cone.{IsCone, IsFromOneTo}
use Rattle.job_words.specs.Options.{OptionRow}
use Rattle.job_words.specs.Command.{Command, always_fits, needed, optional}
use Rattle.job_words.specs.Shape.{shape_of, shape_options}
use Rattle.job_words.specs.Values.{bit_of, pitch_of, rmax_of}
use Rattle.job_words.specs.declared.request.DrawingWords.{DrawingWords}
use Rattle.job_words.specs.declared.request.Request.{Request}
use Rattle.job_words.specs.declared.request.Request.TheVariants as request

-- the request, where each of its values is there
abbrev pub cover_by : Option (ℕ × ℕ) → (rmax pitch : Option ℕ) → Option DrawingWords → Option (List ℕ) → Option Request
cover_by (Some bit) (Some rmax) (Some pitch) (Some shape) (Some code) = Some (request.Cover shape code bit rmax pitch)
cover_by _ _ _ _ _ = None

-- the request of the values of its options
unfoldable pub cover_request : (List ℕ → Option (List ℕ)) → Option Request
cover_request value =
    cover_by (bit_of (value (codes "bit"))) (rmax_of (value (codes "rmax"))) (pitch_of (value (codes "pitch")))
    (shape_of value) (value (codes "code"))

-- its options
unfoldable pub cover_options : List OptionRow
cover_options =
    needed (codes "bit") ∷ needed (codes "rmax") ∷ optional (codes "pitch") ∷ needed (codes "code") ∷ shape_options

-- the command
abbrev pub cover : Command
cover = record {
  name = codes "cover";
  options = cover_options;
  request = cover_request;
  fits = always_fits;
}

-- the ranges of its numbers
pub record IsCoverInRange (bit : ℕ × ℕ) (rmax pitch : ℕ) : Type 0 where
  pub bit_and_rmax : IsCone bit.0 bit.1 rmax
  pub pitch_is : IsFromOneTo 32767 pitch
