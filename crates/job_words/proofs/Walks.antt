-- A list of words `--name=value` at a command of options: accepted, with the values that they give.
use Rattle.std.proofs.Common.{◌≡◌, ◌∙◌, Bool, cond, true, false, not, ◌&&◌, ◌||◌, refl, sym, ap, ap₂, List, [], ◌∷◌, ◌++◌, map, append-nil, append_assoc}
use Rattle.std.specs.List.{fold, list_all, list_any}
use Rattle.std.specs.Str.{bytes_eq}
use Rattle.clap.specs.Faults.{built_fault, check_fault, defaults_fault, fault_of, level_fault, settle_fault, walk_fault}
use Rattle.clap.specs.Kinds.{Kinds, check_kinds, or_else}
use Rattle.clap.specs.Simple.{names_of}
use Rattle.clap.specs.Takes.{is_given}
use Rattle.clap.specs.Walk.{Row, Rule, Text, Walk, finished, first_of, has_row, is_empty, nothing_held, rows_after, settled, walked, with_default}
use Rattle.clap.proofs.FaultLemmas.{leaf_fault}
use Rattle.clap.proofs.SimpleLemmas.{is_false}
use Rattle.clap.proofs.WalkLemmas.{both}
use Rattle.job_words.specs.Options.{OptionRow, is_accepted, options_app, value_in}
use Rattle.job_words.specs.Plain.{GivenOption, IsGiven, IsNamed, AcceptsPlainWords, given_value, is_known, has_needed, is_once, plain_word}
use Rattle.job_words.proofs.Apps.{built-options, built_app, built_rule, built_shape}
use Rattle.job_words.proofs.Rows.{first_of-given, fresh_after, fresh_at_first, given_row, is_fresh, is_given-given}
use Rattle.job_words.proofs.Steps.{held_with, named, turn-plain, walk_with, walked-plain}

module _ (options : List OptionRow) (plain : IsNamed options) where
  -- the walk over the words adds a row for each
  walk-plain : (given : List GivenOption) (rows : List Row) → list_all (is_known options) given ≡ true
      → is_once given ≡ true → is_fresh rows given ≡ true
      → fold (walked (map built_rule options) []) (walk_with rows) (map plain_word given) ≡ walk_with (rows ++ map given_row given)
  walk-plain [] rows known once fresh = ap walk_with (sym (append-nil rows))
  walk-plain (given ∷ others) rows known once fresh =
      let known_parts = both (is_known options given) _ known in
      let once_parts = both (list_all (λ (other : GivenOption). not (bytes_eq given.name other.name)) others) _ once in
      let fresh_parts = both (not (has_row given.name rows)) _ fresh in
      ap (λ w. fold (walked (map built_rule options) []) w (map plain_word others))
      (walked-plain options given rows (named options given.name plain known_parts.0) (is_false _ fresh_parts.0))
      ∙ walk-plain others (rows ++ given_row given ∷ []) known_parts.1 once_parts.1 (fresh_after given rows others fresh_parts.1 once_parts.0)
      ∙ ap walk_with (append_assoc rows (given_row given ∷ []) (map given_row others))

  walk_fault-plain : (given : List GivenOption) (rows : List Row) → list_all (is_known options) given ≡ true
      → is_once given ≡ true → is_fresh rows given ≡ true
      → walk_fault (built_shape options) [] (walk_with rows) (map plain_word given) ≡ []
  unfolding walk_fault
  walk_fault-plain [] rows known once fresh = refl
  walk_fault-plain (given ∷ others) rows known once fresh =
      let known_parts = both (is_known options given) _ known in
      let once_parts = both (list_all (λ (other : GivenOption). not (bytes_eq given.name other.name)) others) _ once in
      let fresh_parts = both (not (has_row given.name rows)) _ fresh in
      let names = named options given.name plain known_parts.0 in
      let none = is_false _ fresh_parts.0 in
      ap₂ (λ first w. or_else first (walk_fault (built_shape options) [] w (map plain_word others)))
      (turn-plain options given rows names none) (walked-plain options given rows names none)
      ∙ walk_fault-plain others (rows ++ given_row given ∷ []) known_parts.1 once_parts.1 (fresh_after given rows others fresh_parts.1 once_parts.0)

-- ---- options have no defaults

abbrev no_kinds : Kinds
no_kinds = []

same_either_way : (rows : List Row) (b : Bool) → cond b rows rows ≡ rows
same_either_way rows true = refl
same_either_way rows false = refl

finished-options : (options : List OptionRow) (rows : List Row) → finished (map built_rule options) (held_with rows) ≡ rows
finished-options [] rows = refl
finished-options (option ∷ options) rows =
    ap (λ now. fold with_default now (map built_rule options)) (same_either_way rows (has_row option.name rows)) ∙ finished-options options rows

no_fault_either_way : (b : Bool) → cond (b || true) [] [] ≡ no_kinds
no_fault_either_way true = refl
no_fault_either_way false = refl

defaults_fault-options : (options : List OptionRow) (rows : List Row) → defaults_fault rows (map built_rule options) ≡ []
unfolding defaults_fault
defaults_fault-options [] rows = refl
defaults_fault-options (option ∷ options) rows =
    ap₂ (λ first now. or_else first (defaults_fault now (map built_rule options)))
    (no_fault_either_way (has_row option.name rows)) (same_either_way rows (has_row option.name rows))
    ∙ defaults_fault-options options rows

-- ---- what is required is there

met : (required there : Bool) → (not required || there) ≡ true → (required && not there) ≡ false
met true there is = ap not is
met false there is = refl

none_missing : (options : List OptionRow) (given : List GivenOption) → list_all (has_needed given) options ≡ true
    → list_any (λ (rule : Rule). rule.required && not (is_given rule.id (map given_row given))) (map built_rule options) ≡ false
none_missing [] given needed = refl
none_missing (option ∷ options) given needed =
    let parts = both (has_needed given option) _ needed in
    ap₂ (λ a b. a || b)
    (ap (λ there. option.required && not there) (is_given-given given option.name) ∙ met option.required _ parts.0)
    (none_missing options given parts.1)

-- ---- the law

module _ (options : List OptionRow) (plain : IsNamed options) (given : List GivenOption) (are : IsGiven options given) where
  abbrev rows : List Row
  rows = map given_row given

  walk_is : fold (walked (map built_rule options) []) (walk_with []) (map plain_word given) ≡ walk_with rows
  walk_is = walk-plain options plain given [] are.known are.once (fresh_at_first given)

  abbrev fault_after : Walk → Kinds
  fault_after w =
      or_else (settle_fault (map built_rule options) false w.held)
      (or_else (defaults_fault (settled (map built_rule options) w.held).rows (map built_rule options))
      (check_fault (built_shape options) (finished (map built_rule options) w.held) false))

  fault_after-plain : fault_after (walk_with rows) ≡ []
  fault_after-plain =
      ap₂ (λ first now. or_else first (check_fault (built_shape options) now false)) (defaults_fault-options options rows) (finished-options options rows)
      ∙ ap (check_kinds false false) (none_missing options given are.needed)

  level_fault-plain : level_fault (built_shape options) [] nothing_held (map plain_word given) false [] ≡ []
  level_fault-plain =
      ap₂ (λ first w. or_else first (fault_after w)) (walk_fault-plain options plain given [] are.known are.once (fresh_at_first given)) walk_is
      ∙ fault_after-plain

  fault_of-plain : (command : Text) → fault_of (options_app options) (command ∷ map plain_word given) ≡ []
  unfolding options_app
  fault_of-plain command =
      ap (λ app. built_fault app nothing_held (map plain_word given)) (built-options options)
      ∙ leaf_fault (built_app options) nothing_held (map plain_word given) refl ∙ level_fault-plain

  value_in-plain : (command name : Text) → value_in options (command ∷ map plain_word given) name ≡ given_value given name
  unfolding value_in options_app
  value_in-plain command name =
      ap (λ app. first_of name (rows_after app.top.rules (names_of app) (map plain_word given))) (built-options options)
      ∙ ap (λ w. first_of name (finished (map built_rule options) w.held)) walk_is
      ∙ ap (first_of name) (finished-options options rows) ∙ first_of-given given name

  pub accepts_plain_words : (command : Text) → AcceptsPlainWords options given command
  unfolding is_accepted
  accepts_plain_words command = record { accepted = ap is_empty (fault_of-plain command); values = value_in-plain command }
