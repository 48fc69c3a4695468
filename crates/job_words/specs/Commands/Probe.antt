-- `probe`: the greatest depth at one point of a drawing.
use Rattle.std.specs.Prelude.{ℕ, Option, Some, None, List, ◌∷◌, codes}
use Rattle.plane_exact.specs.Cone.{IsCone, IsFromOneTo}
use Rattle.plane_exact.specs.Plane.{GridPoint}
use Rattle.job_words.specs.Options.{OptionRow}
use Rattle.job_words.specs.Command.{Command, always_fits, needed, optional}
use Rattle.job_words.specs.Shape.{shape_of, shape_options}
use Rattle.job_words.specs.Values.{at_of, bit_of, rmax_of, limit_of}
use Rattle.job_words.specs.declared.request.DrawingWords.{DrawingWords}
use Rattle.job_words.specs.declared.request.Request.{Request}
use Rattle.job_words.specs.declared.request.Request.TheVariants as request

-- the request, where each of its values is there
abbrev pub probe_by : Option GridPoint → Option (ℕ × ℕ) → Option ℕ → Option ℕ → Option DrawingWords → Option Request
probe_by (Some at) (Some bit) (Some rmax) (Some limit) (Some shape) = Some (request.Probe shape at bit rmax limit)
probe_by _ _ _ _ _ = None

-- the request of the values of its options
unfoldable pub probe_request : (List ℕ → Option (List ℕ)) → Option Request
probe_request value =
    probe_by (at_of (value (codes "at"))) (bit_of (value (codes "bit"))) (rmax_of (value (codes "rmax")))
    (limit_of (value (codes "limit"))) (shape_of value)

-- its options
unfoldable pub probe_options : List OptionRow
probe_options =
    needed (codes "at") ∷ needed (codes "bit") ∷ needed (codes "rmax") ∷ optional (codes "limit") ∷ shape_options

-- the command
abbrev pub probe : Command
probe = record {
  name = codes "probe";
  options = probe_options;
  request = probe_request;
  fits = always_fits;
}

-- the ranges of its numbers
abbrev pub IsProbeInRange : ℕ × ℕ → ℕ → ℕ → Type 0
IsProbeInRange bit rmax limit = IsCone bit.0 bit.1 rmax × IsFromOneTo 32767 limit
