-- `flatten`: the drawing in loops form.
use Rattle.std.specs.Prelude.{ℕ, Option, Some, List, codes, option_and_then}
use Rattle.job_words.specs.Command.{Command, always_fits}
use Rattle.job_words.specs.Options.{OptionRow}
use Rattle.job_words.specs.Shape.{shape_of, shape_options}
use Rattle.job_words.specs.declared.request.Request.{Request}
use Rattle.job_words.specs.declared.request.Request.TheVariants as request

-- the request of the values of its options
unfoldable pub flatten_request : (List ℕ → Option (List ℕ)) → Option Request
flatten_request value = option_and_then (λ shape. Some (request.Flatten shape)) (shape_of value)

-- its options are those of the drawing
unfoldable pub flatten_options : List OptionRow
flatten_options = shape_options

-- the command
abbrev pub flatten : Command
flatten = record {
  name = codes "flatten";
  options = flatten_options;
  request = flatten_request;
  fits = always_fits;
}
