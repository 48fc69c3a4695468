-- One word `--name=value` at a command of options.
use Rattle.std.proofs.Common.{◌≡◌, ◌∙◌, Bool, cond, true, false, not, ◌&&◌, ◌||◌, true≢false, refl, sym, ap, ap₂, List, [], ◌∷◌, ◌++◌, map, Option, Some, None, eq-eqb}
use Rattle.std.specs.Prelude.{◌==◌}
use Rattle.std.specs.List.{list_any}
use Rattle.std.specs.Str.{bytes_eq}
use Rattle.std.proofs.lemmas.List.Folds.{list_any_at}
use Rattle.std.proofs.lemmas.Slice.Eq.{bytes_eq-Decides}
use Rattle.clap.specs.Faults.{flag_word_fault, long_fault, step_fault, turn_fault}
use Rattle.clap.specs.Kinds.{or_else}
use Rattle.clap.specs.Lexer.{has_byte, long_of, long_of_rest}
use Rattle.clap.specs.Walk.{Held, Row, Rule, Step, Text, Walk, after_flag, after_step, arg_by_long, has_row, idle, long_met, long_or_other, trailing, walk_from, walked, with_values, without}
use Rattle.clap.specs.declared.builder.value_parser.Reading.TheVariants.{AsWritten}
use Rattle.clap.specs.declared.error.kind.ErrorKind.TheVariants.{ArgumentConflict}
use Rattle.clap.specs.declared.parser.matches.ValueSource.TheVariants.{CommandLine}
use Rattle.clap.proofs.CutLemmas.{Lacks}
use Rattle.clap.proofs.LexerLemmas.{name_and_value-at}
use Rattle.clap.proofs.SimpleLemmas.{is_false}
use Rattle.clap.proofs.WalkLemmas.{both}
use Rattle.job_words.specs.Options.{OptionRow}
use Rattle.job_words.specs.Plain.{GivenOption, IsNamed, plain_word}
use Rattle.job_words.proofs.Apps.{built_rule, built_shape}
use Rattle.job_words.proofs.Rows.{first_use, given_row}

-- ---- the option that a name names

pub record NamesOption (options : List OptionRow) (name : Text) : Type 0 where
  pub option : OptionRow
  pub found : arg_by_long (map built_rule options) name ≡ Some (built_rule option)
  pub same : option.name ≡ name
  pub lacks_equals : has_byte 61 name ≡ false

pub named : (options : List OptionRow) (name : Text) → IsNamed options
    → list_any (λ (option : OptionRow). bytes_eq option.name name) options ≡ true → NamesOption options name
named [] name plain known = absurd (true≢false (sym known))
named (option ∷ options) name plain known =
    let parts = both (not (has_byte 61 option.name)) _ plain in
    go (is_false _ parts.0) (bytes_eq option.name name) refl (named options name parts.1)
  where
    go : has_byte 61 option.name ≡ false → (b : Bool) → bytes_eq option.name name ≡ b
        → (list_any (λ (other : OptionRow). bytes_eq other.name name) options ≡ true → NamesOption options name)
        → NamesOption (option ∷ options) name
    go lacks true is next =
        let same : option.name ≡ name = (bytes_eq-Decides option.name name).0 is in
        record {
          option = option;
          found = ap (λ b. cond (b || false) (Some (built_rule option)) (arg_by_long (map built_rule options) name)) is;
          same = same;
          lacks_equals = ap (has_byte 61) (sym same) ∙ lacks;
        }
    go lacks false is next =
        let other = next (ap (λ b. b || list_any (λ (o : OptionRow). bytes_eq o.name name) options) (sym is) ∙ known) in
        record {
          option = other.option;
          found = ap (λ b. cond (b || false) (Some (built_rule option)) (arg_by_long (map built_rule options) name)) is ∙ other.found;
          same = other.same;
          lacks_equals = other.lacks_equals;
        }

-- ---- how the word reads

lacks : (name : Text) → has_byte 61 name ≡ false → Lacks 61 name
lacks name none place inside is = true≢false (sym (list_any_at (λ x. x == 61) name place 0 inside (eq-eqb _ _ is)) ∙ none)

ends_not : (name value : Text) → bytes_eq (name ++ 61 ∷ value) [] ≡ false
ends_not [] value = refl
ends_not (byte ∷ name) value = refl

pub plain_word-goes_on : (given : GivenOption) → bytes_eq (plain_word given) (45 ∷ 45 ∷ []) ≡ false
plain_word-goes_on given = ends_not given.name given.value

long_of_rest-at : (name value : Text) → Lacks 61 name → long_of_rest (name ++ 61 ∷ value) ≡ Some (name, Some value)
long_of_rest-at [] value none = ap Some (name_and_value-at [] value none)
long_of_rest-at (byte ∷ name) value none = ap Some (name_and_value-at (byte ∷ name) value none)

pub plain_word-long : (given : GivenOption) → has_byte 61 given.name ≡ false
    → long_of (plain_word given) ≡ Some (given.name, Some given.value)
plain_word-long given none = long_of_rest-at given.name given.value (lacks given.name none)

-- ---- the walk over the word

-- between two words: these rows, and nothing waits for a value
abbrev pub held_with : List Row → Held
held_with rows = record { rows = rows; pending = None; skip = 0 }

abbrev pub walk_with : List Row → Walk
walk_with rows = walk_from (held_with rows)

-- what the word is, by whether it is `--`, how it reads, and which option it names
abbrev met_as : List Rule → Text → Held → Bool → Option (Text × Option Text) → Held × Step
met_as rules word held is_end long = cond is_end (held, trailing 1) (long_or_other rules idle word long held)

abbrev met_by : List Rule → Text → Held → Text → Option Rule → Held × Step
met_by rules word held value found = after_flag rules idle word (long_met rules found (Some value) held).0 (long_met rules found (Some value) held).1

abbrev stepped : List Rule → Text → Walk → Held × Step → Walk
stepped rules word w met = after_step rules word w met.0 met.1

module _ (options : List OptionRow) (given : GivenOption) (rows : List Row) (names : NamesOption options given.name) where
  met_is : met_as (map built_rule options) (plain_word given) (held_with rows) (bytes_eq (plain_word given) (45 ∷ 45 ∷ [])) (long_of (plain_word given))
      ≡ met_by (map built_rule options) (plain_word given) (held_with rows) given.value (Some (built_rule names.option))
  met_is =
      ap₂ (met_as (map built_rule options) (plain_word given) (held_with rows)) (plain_word-goes_on given) (plain_word-long given names.lacks_equals)
      ∙ ap (met_by (map built_rule options) (plain_word given) (held_with rows) given.value) names.found

  -- the word adds the option's row
  pub walked-plain : has_row given.name rows ≡ false
      → walked (map built_rule options) [] (walk_with rows) (plain_word given) ≡ walk_with (rows ++ given_row given ∷ [])
  unfolding walked
  walked-plain none =
      ap (stepped (map built_rule options) (plain_word given) (walk_with rows)) met_is
      ∙ ap (λ id. walk_with (with_values id AsWritten CommandLine (given.value ∷ []) (without id rows))) names.same
      ∙ ap walk_with (first_use given rows none)

  -- and has no fault
  pub turn-plain : has_row given.name rows ≡ false
      → turn_fault (built_shape options) [] (walk_with rows) (plain_word given) ≡ []
  turn-plain none =
      let rules = map built_rule options in
      let word = plain_word given in
      let held = held_with rows in
      let step = λ (met : Held × Step). step_fault (built_shape options) 1 met.0 met.1 in
      ap₂ (λ b long. or_else (cond b [] (flag_word_fault rules false long word held)) (step (met_as rules word held b long)))
      (plain_word-goes_on given) (plain_word-long given names.lacks_equals)
      ∙ ap (λ found. or_else (long_fault rules false found (Some given.value) held) (step (met_by rules word held given.value found)))
      names.found
      ∙ ap (λ b. or_else (or_else (cond (b && true) (ArgumentConflict ∷ []) []) []) []) (ap (λ id. has_row id rows) names.same ∙ none)
