-- Words of the form `--name=value`, and the law that they are accepted.
use Rattle.std.specs.Prelude.{◌≡◌, ℕ, Bool, true, false, not, ◌&&◌, ◌||◌, if◌then◌else◌, Option, Some, None, List, [], ◌∷◌, ◌++◌, map, is_some, codes}
use Rattle.std.specs.List.{list_all, list_any}
use Rattle.std.specs.Str.{bytes_eq}
use Rattle.clap.specs.Lexer.{has_byte}
use Rattle.job_words.specs.Command.{Command}
use Rattle.job_words.specs.Options.{OptionRow, is_accepted, value_in}
use Rattle.job_words.specs.Request.{request_of}
use Rattle.job_words.specs.Values.{cross_named, form_named, form_of, justify_named, letters_of, number_of, pocket_named, point_of, slope_of, units_named, yes_named}
use Rattle.job_words.specs.declared.request.FormWord.{FormWord}
use Rattle.job_words.specs.declared.request.FormWord.TheVariants.{Cxf}

-- an option with a value, which may be any text
pub record GivenOption : Type 0 where
  pub name : List ℕ
  pub value : List ℕ

-- --NAME=VALUE
abbrev pub plain_word : GivenOption → List ℕ
plain_word given = codes "--" ++ (given.name ++ (codes "=" ++ given.value))

-- the value that is given for the option of this name
abbrev pub given_value : List GivenOption → List ℕ → Option (List ℕ)
given_value [] name = None
given_value (given ∷ others) name = if bytes_eq given.name name then Some given.value else given_value others name

-- the name is one of the options'
abbrev pub is_known : List OptionRow → GivenOption → Bool
is_known options given = list_any (λ option. bytes_eq option.name given.name) options

-- no name is given twice
abbrev pub is_once : List GivenOption → Bool
is_once [] = true
is_once (given ∷ others) = list_all (λ other. not (bytes_eq given.name other.name)) others && is_once others

-- a value is given for the option, if it is required
abbrev pub has_needed : List GivenOption → OptionRow → Bool
has_needed given option = not option.required || is_some (given_value given option.name)

-- names of the options, each at most once, and all that are required
pub record IsGiven (options : List OptionRow) (given : List GivenOption) : Type 0 where
  pub known : list_all (is_known options) given ≡ true
  pub once : is_once given ≡ true
  pub needed : list_all (has_needed given) options ≡ true

-- the names of options have no '=' (61)
abbrev pub IsNamed : List OptionRow → Type 0
IsNamed options = list_all (λ option. not (has_byte 61 option.name)) options ≡ true

-- for any options: words `--name=value` with names of the options, each at most once, and all that
-- are required, are accepted, in any order and with any values, and have the values that they give
pub record AcceptsPlainWords (options : List OptionRow) (given : List GivenOption) (command : List ℕ) : Type 0 where
  pub accepted : is_accepted options (command ∷ map plain_word given) ≡ true
  pub values : (name : List ℕ) → value_in options (command ∷ map plain_word given) name ≡ given_value given name

-- a command's name, followed by such words, is the request with the values that they give
abbrev pub IsRequestOfGiven : Command → List GivenOption → Type 0
IsRequestOfGiven command given =
    request_of (command.name ∷ map plain_word given) ≡ command.request (given_value given)

-- the value is in the form and range of the option of this name; a file may have any name
abbrev pub is_in_form : GivenOption → Bool
is_in_form given =
    if bytes_eq given.name (codes "at") then is_some (point_of given.value)
    else if bytes_eq given.name (codes "bit") then is_some (slope_of given.value)
    else if bytes_eq given.name (codes "rmax") then is_some (number_of 1 8191 given.value)
    else if bytes_eq given.name (codes "radius") then is_some (number_of 1 8191 given.value)
    else if bytes_eq given.name (codes "step") then is_some (number_of 1 32767 given.value)
    else if bytes_eq given.name (codes "limit") then is_some (number_of 1 32767 given.value)
    else if bytes_eq given.name (codes "safe") then is_some (number_of 1 32767 given.value)
    else if bytes_eq given.name (codes "feed") then is_some (number_of 1 10000 given.value)
    else if bytes_eq given.name (codes "pitch") then is_some (number_of 1 32767 given.value)
    else if bytes_eq given.name (codes "pocket") then is_some (pocket_named given.value)
    else if bytes_eq given.name (codes "over") then is_some (number_of 1 8191 given.value)
    else if bytes_eq given.name (codes "depth") then is_some (number_of 1 32767 given.value)
    else if bytes_eq given.name (codes "count") then is_some (number_of 1 80 given.value)
    else if bytes_eq given.name (codes "form") then is_some (form_named given.value)
    else if bytes_eq given.name (codes "units") then is_some (units_named given.value)
    else if bytes_eq given.name (codes "chord") then is_some (number_of 1 90 given.value)
    else if bytes_eq given.name (codes "snap") then is_some (number_of 0 16 given.value)
    else if bytes_eq given.name (codes "pixel") then is_some (number_of 1 1000 given.value)
    else if bytes_eq given.name (codes "text") then is_some (letters_of given.value)
    else if bytes_eq given.name (codes "height") then is_some (number_of 1 32767 given.value)
    else if bytes_eq given.name (codes "width") then is_some (number_of 10 500 given.value)
    else if bytes_eq given.name (codes "charspace") then is_some (number_of 0 500 given.value)
    else if bytes_eq given.name (codes "wordspace") then is_some (number_of 0 500 given.value)
    else if bytes_eq given.name (codes "linespace") then is_some (number_of 10 500 given.value)
    else if bytes_eq given.name (codes "justify") then is_some (justify_named given.value)
    else if bytes_eq given.name (codes "mirror") then is_some (yes_named given.value)
    else if bytes_eq given.name (codes "flip") then is_some (yes_named given.value)
    else if bytes_eq given.name (codes "cross") then is_some (cross_named given.value)
    else true

-- a text is there where the form is a font's
abbrev pub is_text_for : Option FormWord → Option (List ℕ) → Bool
is_text_for (Some Cxf) None = false
is_text_for form text = true

-- a text is given where the form is a font's
abbrev pub is_text_given : List GivenOption → Bool
is_text_given given = is_text_for (form_of (given_value given (codes "form"))) (given_value given (codes "text"))

-- and where each value is in its form and range, a font has its text, and the values fit together, there is such a request
abbrev pub IsAcceptedInForm : Command → List GivenOption → Type 0
IsAcceptedInForm command given =
    list_all is_in_form given ≡ true → is_text_given given ≡ true → command.fits (given_value given) ≡ true
    → is_some (request_of (command.name ∷ map plain_word given)) ≡ true
