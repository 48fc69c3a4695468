-- `check`: whether a G-code program stays within a drawing.
use Rattle.std.specs.Prelude.{ℕ, Option, Some, None, List, ◌∷◌, codes}
use Rattle.job_words.specs.Options.{OptionRow}
use Rattle.job_words.specs.Command.{Command, always_fits, needed}
use Rattle.job_words.specs.Shape.{shape_of, shape_options}
use Rattle.job_words.specs.Values.{bit_of, rmax_of}
use Rattle.job_words.specs.declared.request.DrawingWords.{DrawingWords}
use Rattle.job_words.specs.declared.request.Request.{Request}
use Rattle.job_words.specs.declared.request.Request.TheVariants as request

-- the request, where each of its values is there
abbrev pub check_by : Option (ℕ × ℕ) → Option ℕ → Option DrawingWords → Option (List ℕ) → Option Request
check_by (Some bit) (Some rmax) (Some shape) (Some code) = Some (request.Check shape code bit rmax)
check_by _ _ _ _ = None

-- the request of the values of its options
unfoldable pub check_request : (List ℕ → Option (List ℕ)) → Option Request
check_request value =
    check_by (bit_of (value (codes "bit"))) (rmax_of (value (codes "rmax"))) (shape_of value) (value (codes "code"))

-- its options
unfoldable pub check_options : List OptionRow
check_options =
    needed (codes "bit") ∷ needed (codes "rmax") ∷ needed (codes "code") ∷ shape_options

-- the command
abbrev pub check : Command
check = record {
  name = codes "check";
  options = check_options;
  request = check_request;
  fits = always_fits;
}
