-- The command that a list of options makes: how it is built option by option, and that `clap` tells all of it.
use Rattle.std.proofs.Common.{◌≡◌, ◌∙◌, ℕ, Bool, true, false, ◌&&◌, not, refl, sym, ap, ap₂, List, [], ◌∷◌, ◌++◌, map, codes, Some}
use Rattle.std.specs.List.{list_all, list_any}
use Rattle.std.proofs.lemmas.List.{map-append}
use Rattle.clap.specs.Faults.{has_free_rules, is_free_app, is_simple_and_free}
use Rattle.clap.specs.Simple.{App, Shape, built, filled_from, has_simple_rules, is_buildable, is_ready, is_ready_leaf, is_simple, new_app, new_shape, with_rule}
use Rattle.clap.specs.Walk.{Rule, is_early_multiple}
use Rattle.clap.specs.declared.builder.value_parser.ValueParser.TheVariants.{String}
use Rattle.job_words.specs.Options.{OptionRow, app_with, option_rule, options_app}

-- the same command with neither help nor version
abbrev pub without_help : App → App
without_help app = record app { top = record app.top { disable_help_flag = true } }

abbrev pub without_version : App → App
without_version app = record app { top = record app.top { disable_version_flag = true } }

pub options_app-none : without_version (without_help (new_app (codes "engrave"))) ≡ options_app []
unfolding options_app
options_app-none = refl

-- one option more
pub options_app-more : (options : List OptionRow) (option : OptionRow)
    → with_rule (options_app options) (option_rule option) ≡ options_app (options ++ option ∷ [])
unfolding options_app
options_app-more options option = ap app_with (sym (map-append option_rule options (option ∷ [])))

-- ---- what building adds

-- an option of a built command: one value, which is any text
abbrev pub built_rule : OptionRow → Rule
built_rule option = record (option_rule option) {
  parser = Some String;
  range = Some (record { start_inclusive = 1; end_inclusive = 1 });
}

abbrev pub built_shape : List OptionRow → Shape
built_shape options = record (new_shape (codes "engrave")) {
  rules = map built_rule options;
  disable_help_flag = true;
  disable_help_subcommand = true;
  disable_version_flag = true;
  is_built = true;
}

abbrev pub built_app : List OptionRow → App
built_app options = record { top = built_shape options; subs = [] }

filled-options : (place : ℕ) (options : List OptionRow) → filled_from place (map option_rule options) ≡ map built_rule options
filled-options place [] = refl
filled-options place (option ∷ options) = ap (λ rest. built_rule option ∷ rest) (filled-options place options)

pub built-options : (options : List OptionRow) → built (options_app options) ≡ built_app options
unfolding options_app
built-options options =
    ap (λ rules. record { top = record (built_shape []) { rules = rules }; subs = [] }) (filled-options 1 options)

-- ---- it is simple, and no option has a rule on another

both : (a b : Bool) → a ≡ true → b ≡ true → (a && b) ≡ true
both a b p q = ap₂ (λ x y. x && y) p q

simple_rules : (options : List OptionRow) → list_all (λ (rule : Rule). rule.is_simple) (map option_rule options) ≡ true
simple_rules [] = refl
simple_rules (option ∷ options) = simple_rules options

simple_built : (options : List OptionRow) → list_all (λ (rule : Rule). rule.is_simple) (map built_rule options) ≡ true
simple_built [] = refl
simple_built (option ∷ options) = simple_built options

free_built : (options : List OptionRow) → list_all (λ (rule : Rule). rule.is_free) (map built_rule options) ≡ true
free_built [] = refl
free_built (option ∷ options) = free_built options

none_early : (count : ℕ) (options : List OptionRow) → list_any (is_early_multiple count) (map built_rule options) ≡ false
none_early count [] = refl
none_early count (option ∷ options) = none_early count options

ready_built : (options : List OptionRow) → is_ready (built_shape options) ≡ true
ready_built options = both (has_simple_rules (built_shape options)) _ (simple_built options) (ap not (none_early _ options))

buildable : (options : List OptionRow) → is_buildable (options_app options) ≡ true
unfolding options_app
buildable options = both (has_simple_rules (app_with (map option_rule options)).top) true (simple_rules options) refl

pub options_app-simple : (options : List OptionRow) → is_simple (options_app options) ≡ true
options_app-simple options =
    ap (λ app. is_buildable (options_app options) && (is_ready app.top && list_all is_ready_leaf app.subs)) (built-options options)
    ∙ both _ _ (buildable options) (both (is_ready (built_shape options)) true (ready_built options) refl)

pub options_app-free : (options : List OptionRow) → is_simple_and_free (options_app options) ≡ true
options_app-free options =
    both _ _ (options_app-simple options)
    (ap is_free_app (built-options options) ∙ both (has_free_rules (built_shape options)) true (free_built options) refl)
