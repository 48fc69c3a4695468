-- `repair`: a G-code program in which moves that leave the drawing have become lifts.
use Rattle.std.specs.Prelude.{ℕ, Option, Some, None, List, ◌∷◌, codes}
use Rattle.plane_exact.specs.Cone.{IsCone, IsFromOneTo}
use Rattle.job_words.specs.Options.{OptionRow}
use Rattle.job_words.specs.Command.{Command, always_fits, needed, optional}
use Rattle.job_words.specs.Shape.{shape_of, shape_options}
use Rattle.job_words.specs.Values.{bit_of, feed_of, rmax_of, safe_of}
use Rattle.job_words.specs.declared.request.DrawingWords.{DrawingWords}
use Rattle.job_words.specs.declared.request.Request.{Request}
use Rattle.job_words.specs.declared.request.Request.TheVariants as request

-- the request, where each of its values is there
abbrev pub repair_by : Option (ℕ × ℕ) → (rmax safe feed : Option ℕ) → Option DrawingWords → Option (List ℕ) → Option Request
repair_by (Some bit) (Some rmax) (Some safe) (Some feed) (Some shape) (Some code) = Some (request.Repair shape code bit rmax safe feed)
repair_by _ _ _ _ _ _ = None

-- the request of the values of its options
unfoldable pub repair_request : (List ℕ → Option (List ℕ)) → Option Request
repair_request value =
    repair_by (bit_of (value (codes "bit"))) (rmax_of (value (codes "rmax"))) (safe_of (value (codes "safe"))) (feed_of (value (codes "feed")))
    (shape_of value) (value (codes "code"))

-- its options
unfoldable pub repair_options : List OptionRow
repair_options =
    needed (codes "bit") ∷ needed (codes "rmax") ∷ optional (codes "safe") ∷ optional (codes "feed") ∷ needed (codes "code") ∷ shape_options

-- the command
abbrev pub repair : Command
repair = record {
  name = codes "repair";
  options = repair_options;
  request = repair_request;
  fits = always_fits;
}

-- the ranges of its numbers
pub record IsRepairInRange (bit : ℕ × ℕ) (rmax safe feed : ℕ) : Type 0 where
  pub bit_and_rmax : IsCone bit.0 bit.1 rmax
  pub safe_is : IsFromOneTo 32767 safe
  pub feed_is : IsFromOneTo 10000 feed
