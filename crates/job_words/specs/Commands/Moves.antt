-- `moves`: the moves of a G-code program.
use Rattle.std.specs.Prelude.{ℕ, Option, Some, None, List, [], ◌∷◌, codes}
use Rattle.grid_num.specs.declared.units.Units.{Units}
use Rattle.job_words.specs.Options.{OptionRow}
use Rattle.job_words.specs.Command.{Command, always_fits, needed, optional}
use Rattle.job_words.specs.Values.{units_of}
use Rattle.job_words.specs.declared.request.Request.{Request}
use Rattle.job_words.specs.declared.request.Request.TheVariants as request

-- the request, where each of its values is there
abbrev pub moves_by : Option Units → Option (List ℕ) → Option Request
moves_by (Some units) (Some code) = Some (request.Moves code units)
moves_by _ _ = None

-- the request of the values of its options
unfoldable pub moves_request : (List ℕ → Option (List ℕ)) → Option Request
moves_request value = moves_by (units_of (value (codes "units"))) (value (codes "code"))

-- its options
unfoldable pub moves_options : List OptionRow
moves_options = needed (codes "code") ∷ optional (codes "units") ∷ []

-- the command
abbrev pub moves : Command
moves = record {
  name = codes "moves";
  options = moves_options;
  request = moves_request;
  fits = always_fits;
}
