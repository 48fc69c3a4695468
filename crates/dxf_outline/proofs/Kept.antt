-- One more pair of an entity, and what its pairs say.
use Rattle.std.proofs.Common.{◌≡◌, ℕ, Bool, true, false, ◌&&◌, if◌then◌else◌, Option, Some, None, List, [], ◌∷◌, ◌++◌, filter, find, map, option_map, refl, ap, ◌∙◌}
use Rattle.std.specs.List.{last_or}
use Rattle.std.specs.Option.{option_or}
use Rattle.std.proofs.lemmas.List.{append-nil, map-append}
use Rattle.std.proofs.lemmas.List.Elements.{filter-append}
use Rattle.std.proofs.lemmas.List.Folds.{find-append}
use Rattle.dxf_outline.specs.Kept.{first_of, last_of, with_reading}
use Rattle.dxf_outline.specs.Pairs.{Pair, has_code}
use Rattle.dxf_outline.specs.Values.{first_unreadable, is_named, is_unreadable, last_reading, reading, slots_of, slots_with}
use Rattle.dxf_outline.specs.declared.slots.Shape.{Shape}
use Rattle.dxf_outline.specs.declared.values.Reading.{Reading}

last_or-push : {A : Type 0} (before : Option A) (xs : List A) (x : A) → last_or before (xs ++ x ∷ []) ≡ Some x
last_or-push before [] x = refl
last_or-push before (y ∷ xs) x = last_or-push (Some y) xs x

module _ (per_unit : ℕ) (fields : List Pair) (pair : Pair) where
  -- the reading of the pair
  abbrev its_reading : Reading
  its_reading = reading per_unit pair.code pair.value

  first_at : (found : Option Pair) (counts : Bool) → option_map (λ pair. pair.at) (option_or found (if counts then Some pair else None)) ≡ first_of (option_map (λ pair. pair.at) found) counts pair.at
  first_at (Some first) counts = refl
  first_at None true = refl
  first_at None false = refl

  pub first_unreadable-push : first_unreadable per_unit (fields ++ pair ∷ []) ≡ first_of (first_unreadable per_unit fields) (is_unreadable its_reading) pair.at
  first_unreadable-push =
      ap (option_map (λ pair. pair.at)) (find-append (λ pair. is_unreadable (reading per_unit pair.code pair.value)) fields (pair ∷ [])) ∙ first_at (find (λ pair. is_unreadable (reading per_unit pair.code pair.value)) fields) (is_unreadable its_reading)

-- one more element that passes, and one that doesn't
filter-more : {X : Type 0} (p : X → Bool) (xs : List X) (x : X) → p x ≡ true → filter p (xs ++ x ∷ []) ≡ filter p xs ++ x ∷ []
filter-more p xs x is = filter-append p xs (x ∷ []) ∙ rw is refl

filter-same : {X : Type 0} (p : X → Bool) (xs : List X) (x : X) → p x ≡ false → filter p (xs ++ x ∷ []) ≡ filter p xs
filter-same p xs x is = filter-append p xs (x ∷ []) ∙ rw is (append-nil (filter p xs))

module _ (per_unit : ℕ) (fields : List Pair) (pair : Pair) where
  abbrev reads : Pair → Reading
  reads pair = reading per_unit pair.code pair.value

  last_by : (code : ℕ) (b : Bool) → has_code code pair ≡ b → last_reading per_unit code (fields ++ pair ∷ []) ≡ last_of b (reads pair) (last_reading per_unit code fields)
  last_by code true is =
      ap (last_or None) (ap (map reads) (filter-more (has_code code) fields pair is) ∙ map-append reads (filter (has_code code) fields) (pair ∷ [])) ∙ last_or-push None (map reads (filter (has_code code) fields)) (reads pair)
  last_by code false is = ap (λ fields. last_or None (map reads fields)) (filter-same (has_code code) fields pair is)

  pub last_reading-push : (code : ℕ) → last_reading per_unit code (fields ++ pair ∷ []) ≡ last_of (has_code code pair) (reads pair) (last_reading per_unit code fields)
  last_reading-push code = last_by code (has_code code pair) refl

  or_none : (before : Option ℕ) → before ≡ first_of before false pair.at
  or_none None = refl
  or_none (Some first) = refl

  flags_by : (b : Bool) → has_code 70 pair ≡ b → first_unreadable per_unit (filter (has_code 70) (fields ++ pair ∷ [])) ≡ first_of (first_unreadable per_unit (filter (has_code 70) fields)) (b && is_unreadable (reads pair)) pair.at
  flags_by true is = ap (first_unreadable per_unit) (filter-more (has_code 70) fields pair is) ∙ first_unreadable-push per_unit (filter (has_code 70) fields) pair
  flags_by false is = ap (first_unreadable per_unit) (filter-same (has_code 70) fields pair is) ∙ or_none _

  pub slots_with-push : slots_with per_unit (fields ++ pair ∷ []) ≡ with_reading (slots_with per_unit fields) pair (reads pair)
  unfolding slots_with
  slots_with-push =
      rw (first_unreadable-push per_unit fields pair, flags_by (has_code 70 pair) refl, last_reading-push 10, last_reading-push 11, last_reading-push 20, last_reading-push 21, last_reading-push 40, last_reading-push 42, last_reading-push 50, last_reading-push 51, last_reading-push 70) refl

-- a pair of a named code
pub slots_of-push : (shape : Shape) (per_unit : ℕ) (fields : List Pair) (pair : Pair) → is_named shape pair.code ≡ true → slots_of shape per_unit (fields ++ pair ∷ []) ≡ with_reading (slots_of shape per_unit fields) pair (reading per_unit pair.code pair.value)
slots_of-push shape per_unit fields pair named =
    ap (slots_with per_unit) (filter-more (λ pair. is_named shape pair.code) fields pair named) ∙ slots_with-push per_unit (filter (λ pair. is_named shape pair.code) fields) pair
