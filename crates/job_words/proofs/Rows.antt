-- The rows that options leave, each used once.
use Rattle.std.proofs.Common.{◌≡◌, ◌∙◌, Bool, cond, true, false, not, ◌&&◌, ◌||◌, true≢false, refl, ap, ap₂, List, [], ◌∷◌, ◌++◌, map, Some, None, is_some, append-nil}
use Rattle.std.specs.List.{find, list_all}
use Rattle.std.specs.Option.{option_map_or}
use Rattle.std.specs.Prelude.{option_and_then, slice_get}
use Rattle.std.specs.Str.{bytes_eq}
use Rattle.clap.specs.Facts.{explicit_source}
use Rattle.clap.specs.Takes.{is_given}
use Rattle.clap.specs.Walk.{Row, Text, at_row, first_of, has_row, more_values, with_values, without}
use Rattle.clap.specs.declared.builder.value_parser.Reading.TheVariants.{AsWritten}
use Rattle.clap.specs.declared.parser.matches.ValueSource.TheVariants.{CommandLine}
use Rattle.clap.proofs.SimpleLemmas.{is_false}
use Rattle.clap.proofs.WalkLemmas.{both}
use Rattle.job_words.specs.Plain.{GivenOption, given_value}

-- what a use of an option leaves
abbrev pub given_row : GivenOption → Row
given_row given = record { id = given.name; values = given.value ∷ []; count = None; source = Some CommandLine; reading = AsWritten }

neither : (a b : Bool) → (a || b) ≡ false → (a ≡ false) × (b ≡ false)
neither true b e = absurd (true≢false e)
neither false b e = (refl, e)

pub at_row-missing : (id : Text) (change : Row → List Row) (missing rows : List Row) → has_row id rows ≡ false
    → at_row id change missing rows ≡ rows ++ missing
at_row-missing id change missing [] none = refl
at_row-missing id change missing (row ∷ rows) none =
    let parts = neither (bytes_eq row.id id) (has_row id rows) none in
    ap (λ b. cond b (change row ++ rows) (row ∷ at_row id change missing rows)) parts.0
    ∙ ap (λ rest. row ∷ rest) (at_row-missing id change missing rows parts.1)

-- the first use of an option adds a row
pub first_use : (given : GivenOption) (rows : List Row) → has_row given.name rows ≡ false
    → with_values given.name AsWritten CommandLine (given.value ∷ []) (without given.name rows) ≡ rows ++ given_row given ∷ []
first_use given rows none =
    let kept = at_row-missing given.name (λ _. []) [] rows none ∙ append-nil rows in
    ap (with_values given.name AsWritten CommandLine (given.value ∷ [])) kept
    ∙ at_row-missing given.name (more_values CommandLine (given.value ∷ [])) (given_row given ∷ []) rows none

-- none of the options was used before
abbrev pub is_fresh : List Row → List GivenOption → Bool
is_fresh rows = list_all (λ given. not (has_row given.name rows))

pub fresh_at_first : (given : List GivenOption) → is_fresh [] given ≡ true
fresh_at_first [] = refl
fresh_at_first (given ∷ others) = fresh_at_first others

has_row-more : (id : Text) (rows : List Row) (row : Row) → has_row id rows ≡ false → bytes_eq row.id id ≡ false
    → has_row id (rows ++ row ∷ []) ≡ false
has_row-more id [] row none other = ap (λ b. b || false) other
has_row-more id (first ∷ rows) row none other =
    let parts = neither (bytes_eq first.id id) (has_row id rows) none in
    ap₂ (λ a b. a || b) parts.0 (has_row-more id rows row parts.1 other)

-- and none of the others, once this one is used
pub fresh_after : (given : GivenOption) (rows : List Row) (others : List GivenOption) → is_fresh rows others ≡ true
    → list_all (λ (other : GivenOption). not (bytes_eq given.name other.name)) others ≡ true
    → is_fresh (rows ++ given_row given ∷ []) others ≡ true
fresh_after given rows [] fresh once = refl
fresh_after given rows (other ∷ others) fresh once =
    let here = both (not (has_row other.name rows)) _ fresh in
    let differs = both (not (bytes_eq given.name other.name)) _ once in
    let none = has_row-more other.name rows (given_row given) (is_false _ here.0) (is_false _ differs.0) in
    ap₂ (λ a b. a && b) (ap not none) (fresh_after given rows others here.1 differs.1)

-- ---- what the rows of the options have

pub first_of-given : (given : List GivenOption) (name : Text) → first_of name (map given_row given) ≡ given_value given name
first_of-given [] name = refl
first_of-given (given ∷ others) name = go (bytes_eq given.name name) (first_of-given others name)
  where
    go : (b : Bool) → first_of name (map given_row others) ≡ given_value others name
        → option_and_then (λ (r : Row). slice_get r.values 0) (cond b (Some (given_row given)) (find (λ (r : Row). bytes_eq r.id name) (map given_row others)))
        ≡ cond b (Some given.value) (given_value others name)
    go true rest = refl
    go false rest = rest

pub is_given-given : (given : List GivenOption) (name : Text)
    → is_given name (map given_row given) ≡ is_some (given_value given name)
is_given-given [] name = refl
is_given-given (given ∷ others) name = go (bytes_eq given.name name) (is_given-given others name)
  where
    go : (b : Bool) → is_given name (map given_row others) ≡ is_some (given_value others name)
        → option_map_or (λ (r : Row). explicit_source r.source) (cond b (Some (given_row given)) (find (λ (r : Row). bytes_eq r.id name) (map given_row others))) false
        ≡ is_some (cond b (Some given.value) (given_value others name))
    go true rest = refl
    go false rest = rest
