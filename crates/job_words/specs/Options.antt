-- The options of a command, and when words are accepted as a list of them.
use Rattle.std.specs.Prelude.{Bool, true, Option, Some, List, [], map, codes}
use Rattle.clap.specs.Faults.{fault_of}
use Rattle.clap.specs.Simple.{App, matches_of, new_rule, new_shape}
use Rattle.clap.specs.Walk.{Rule, Text, first_of, is_empty}
use Rattle.clap.specs.declared.builder.action.ArgAction.TheVariants.{Set}
use Rattle.job_words.specs.declared.options.CommandOption.{CommandOption}

-- an option: its name, and whether it is required
pub record OptionRow : Type 0 where
  pub name : Text
  pub required : Bool

-- an option of the code's tables
abbrev pub row_of : CommandOption → OptionRow
row_of option = record { name = option.name.now; required = option.required }

-- `--name` with one value; given twice it is a fault
abbrev pub option_rule : OptionRow → Rule
option_rule option = record (new_rule option.name) {
  long = Some option.name;
  action = Some Set;
  required = option.required;
}

-- the command with these rules, and neither help, version, positional arguments nor subcommands
abbrev pub app_with : List Rule → App
app_with rules = record {
  top = record (new_shape (codes "engrave")) { rules = rules; disable_help_flag = true; disable_version_flag = true };
  subs = [];
}

-- the command with these options, as `clap` sees it
unfoldable pub options_app : List OptionRow → App
options_app options = app_with (map option_rule options)

-- `clap` finds no fault in the words, of which the first is the command's name
unfoldable pub is_accepted : List OptionRow → List Text → Bool
is_accepted options words = is_empty (fault_of (options_app options) words)

-- the value that `clap` finds for the option of this name, if it is given
unfoldable pub value_in : List OptionRow → List Text → Text → Option Text
value_in options words name = first_of name (matches_of (options_app options) words)
