-- What a command of options answers, by what `clap` says of it.
use Rattle.std.proofs.Common.{◌≡◌, ◌≢◌, ◌∙◌, ◌+◌, ◌<◌, ⊎_elim, ℕ, true, false, sym, ap, ap₂, List, [], ◌∷◌, ◌++◌, map, length, take, get_or, ne_eqb, arith, append_assoc}
use Rattle.std.proofs.lemmas.List.{map-append, take_more}
use Rattle.clap.specs.Faults.{fault_of, is_simple_and_free}
use Rattle.clap.specs.Kinds.{HasKind, Kinds}
use Rattle.clap.specs.Matches.{first_value, found_of}
use Rattle.clap.specs.Simple.{App, HasMatchesOf, is_simple, matches_of, with_rule}
use Rattle.clap.specs.Values.{kind_of}
use Rattle.clap.specs.Walk.{Rule, Text, first_of, is_empty}
use Rattle.clap.specs.declared.error.Error.{Error}
use Rattle.clap.specs.declared.error.kind.ErrorKind.TheVariants.{OutOfMemory}
use Rattle.clap.specs.declared.parser.matches.ArgMatches.{ArgMatches}
use Rattle.clap.proofs.WalkLemmas.{first_value-rows}
use Rattle.job_words.specs.Options.{OptionRow, is_accepted, option_rule, options_app, row_of, value_in}
use Rattle.job_words.specs.declared.options.CommandOption.{CommandOption}
use Rattle.job_words.proofs.Apps.{options_app-free, options_app-more, options_app-simple}

module _ (app : App) (options : List OptionRow) (words : List Text) (is : app ≡ options_app options) where
  -- where `clap` finds no fault, the words are accepted
  pub accepted_by : (is_simple_and_free app ≡ true → fault_of app words ≡ []) → is_accepted options words ≡ true
  unfolding is_accepted
  accepted_by none =
      ap (λ a. is_empty (fault_of a words)) (sym is) ∙ ap is_empty (none (ap is_simple_and_free is ∙ options_app-free options))

  -- the values are those that `clap` found
  pub values_by : (matches : ArgMatches) → HasMatchesOf app words matches → (name : Text)
      → first_value (found_of matches) name ≡ value_in options words name
  unfolding value_in
  values_by matches has name =
      first_value-rows (found_of matches) name
      ∙ ap (first_of name) ((has (ap is_simple is ∙ options_app-simple options)).0 ∙ ap (λ a. matches_of a words) is)

  some_kind : (kinds : Kinds) (error : Error) → kind_of error ≢ OutOfMemory → HasKind kinds error → is_empty kinds ≡ false
  some_kind [] error other has = absurd (⊎_elim (λ memory. other memory) (λ none. none) has)
  some_kind (kind ∷ kinds) error other has = ne_eqb _ _ (λ e. omega arith)

  -- an error that isn't running out of memory refuses the words
  pub refused_by : (error : Error) → kind_of error ≢ OutOfMemory → (is_simple_and_free app ≡ true
      → HasKind (fault_of app words) error) → is_accepted options words ≡ false
  unfolding is_accepted
  refused_by error other has =
      ap (λ a. is_empty (fault_of a words)) (sym is)
      ∙ some_kind (fault_of app words) error other (has (ap is_simple_and_free is ∙ options_app-free options))

-- a command with options, the first of more and the next one has one more
pub one_more : (first : List OptionRow) (options : List CommandOption) (place : ℕ) (default : CommandOption) (before after : App) (rule : Rule)
    → place < length options → before ≡ options_app (first ++ map row_of (take place options))
    → rule ≡ option_rule (row_of (get_or options place default)) → after ≡ with_rule before rule
    → after ≡ options_app (first ++ map row_of (take (place + 1) options))
one_more first options place default before after rule inside is rule_is added =
    let option = get_or options place default in
    let taken = take place options in
    added ∙ ap₂ with_rule is rule_is ∙ options_app-more (first ++ map row_of taken) (row_of option)
    ∙ ap options_app (append_assoc first (map row_of taken) (row_of option ∷ []))
    ∙ ap (λ rows. options_app (first ++ rows)) (sym (map-append row_of taken (option ∷ [])))
    ∙ ap (λ xs. options_app (first ++ map row_of xs)) (sym (take_more options place default inside))
