-- `contacts`: the greatest disc that touches the outline at each step along it.
use Rattle.std.specs.Prelude.{ℕ, Option, Some, None, List, ◌∷◌, codes}
use Rattle.plane_exact.specs.Cone.{IsFromOneTo}
use Rattle.job_words.specs.Options.{OptionRow}
use Rattle.job_words.specs.Command.{Command, always_fits, needed}
use Rattle.job_words.specs.Shape.{shape_of, shape_options}
use Rattle.job_words.specs.Values.{rmax_of, step_of}
use Rattle.job_words.specs.declared.request.DrawingWords.{DrawingWords}
use Rattle.job_words.specs.declared.request.Request.{Request}
use Rattle.job_words.specs.declared.request.Request.TheVariants as request

-- the request, where each of its values is there
abbrev pub contacts_by : Option ℕ → Option ℕ → Option DrawingWords → Option Request
contacts_by (Some step) (Some rmax) (Some shape) = Some (request.Contacts shape step rmax)
contacts_by _ _ _ = None

-- the request of the values of its options
unfoldable pub contacts_request : (List ℕ → Option (List ℕ)) → Option Request
contacts_request value = contacts_by (step_of (value (codes "step"))) (rmax_of (value (codes "rmax"))) (shape_of value)

-- its options
unfoldable pub contacts_options : List OptionRow
contacts_options =
    needed (codes "step") ∷ needed (codes "rmax") ∷ shape_options

-- the command
abbrev pub contacts : Command
contacts = record {
  name = codes "contacts";
  options = contacts_options;
  request = contacts_request;
  fits = always_fits;
}

-- the ranges of its numbers
abbrev pub IsContactsInRange : ℕ → ℕ → Type 0
IsContactsInRange step rmax = IsFromOneTo 32767 step × IsFromOneTo 8191 rmax
