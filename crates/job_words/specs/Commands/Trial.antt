-- `trial`: a trial of the whole program on a drawing that it makes itself.
use Rattle.std.specs.Prelude.{ℕ, Option, Some, List, [], ◌∷◌, codes, option_and_then}
use Rattle.plane_exact.specs.Cone.{IsFromOneTo}
use Rattle.job_words.specs.Command.{Command, always_fits, needed}
use Rattle.job_words.specs.Options.{OptionRow}
use Rattle.job_words.specs.Values.{count_of}
use Rattle.job_words.specs.declared.request.Request.{Request}
use Rattle.job_words.specs.declared.request.Request.TheVariants as request

-- the request of the value of its option
unfoldable pub trial_request : (List ℕ → Option (List ℕ)) → Option Request
trial_request value = option_and_then (λ count. Some (request.Trial count)) (count_of (value (codes "count")))

-- its option
unfoldable pub trial_options : List OptionRow
trial_options = needed (codes "count") ∷ []

-- the command
abbrev pub trial : Command
trial = record {
  name = codes "trial";
  options = trial_options;
  request = trial_request;
  fits = always_fits;
}

-- the range of its number
abbrev pub IsTrialInRange : ℕ → Type 0
IsTrialInRange count = IsFromOneTo 80 count
