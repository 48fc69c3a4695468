-- Values that are in their forms and ranges: each option's value is there, or its default.
use Rattle.std.proofs.Common.{◌≡◌, ◌∙◌, ℕ, Bool, cond, true, false, true≢false, refl, sym, ap, ap₂, List, [], ◌∷◌, codes, Option, Some, None, is_some}
use Rattle.std.specs.List.{list_all}
use Rattle.std.specs.Prelude.{if◌then◌else◌, option_and_then, option_map}
use Rattle.std.specs.Str.{bytes_eq}
use Rattle.std.proofs.lemmas.Slice.Eq.{bytes_eq-Decides}
use Rattle.clap.proofs.WalkLemmas.{both}
use Rattle.job_words.specs.Plain.{GivenOption, given_value, has_needed, is_in_form, is_text_for, is_text_given}
use Rattle.job_words.specs.Shape.{is_worded, lettering_of, shape_of, shape_options}
use Rattle.job_words.specs.Values.{at_of, bit_of, charspace_of, chord_of, count_of, cross_named, cross_of, depth_of, feed_of, form_named, form_of, height_of, justify_named, justify_of, letters_of, limit_of, linespace_of, number_of, or_default, over_of, pitch_of, pixel_of, pocket_named, pocket_of, point_of, radius_of, rmax_of, safe_of, slope_of, snap_of, step_of, text_of, units_named, units_of, width_of, wordspace_of, yes_named, yes_of}
use Rattle.job_words.specs.declared.request.DrawingWords.{DrawingWords}
use Rattle.job_words.specs.declared.request.FormWord.{FormWord}
use Rattle.job_words.specs.declared.request.FormWord.TheVariants as form

abbrev pub Is : {A : Type 0} → Option A → Type 0
Is o = is_some o ≡ true

pub none_is_not : {P : Type 0} → false ≡ true → P
none_is_not e = absurd (true≢false (sym e))

-- what comes of a value that is there, is there too
pub then_some_is : {A B : Type 0} (next : A → Option B) (o : Option A) → Is o → ((x : A) → o ≡ Some x → Is (next x)) → Is (option_and_then next o)
then_some_is next (Some x) there later = later x refl
then_some_is next None there later = none_is_not there

mapped_some : {A : Type 0} (o : Option A) → Is o → Is (option_map Some o)
mapped_some (Some x) there = refl
mapped_some None there = none_is_not there

-- where the test holds, what stands in its first branch is there
cond_some : {A : Type 0} (test : Bool) (x : A) → test ≡ true → Is (if test then Some x else None)
cond_some true x is = refl
cond_some false x is = none_is_not is

pub then_some : {A B : Type 0} (next : A → Option B) (o : Option A) → Is o → ((x : A) → Is (next x)) → Is (option_and_then next o)
then_some next (Some x) there later = later x
then_some next None there later = none_is_not there

-- ---- values, by their forms

needed_some : {A : Type 0} (read : List ℕ → Option A) (value : Option (List ℕ)) → Is value → ((text : List ℕ)
    → value ≡ Some text → Is (read text)) → Is (option_and_then read value)
needed_some read None there fits = none_is_not there
needed_some read (Some text) there fits = fits text refl

default_some : {A : Type 0} (default : A) (read : List ℕ → Option A) (value : Option (List ℕ)) → ((text : List ℕ)
    → value ≡ Some text → Is (read text)) → Is (or_default default read value)
default_some default read None fits = refl
default_some default read (Some text) fits = fits text refl

some≢none : {A : Type 0} (x : A) → None ≡ Some x → ⊥
some≢none x e = true≢false (sym (ap is_some e))

-- each value that is given is in the form of its option
fits : (given : List GivenOption) → list_all is_in_form given ≡ true → (name text : List ℕ) → given_value given name ≡ Some text → is_in_form (record { name = name; value = text }) ≡ true
fits [] in_form name text is = absurd (some≢none text is)
fits (given ∷ others) in_form name text is =
    let parts = both (is_in_form given) _ in_form in
    go parts.0 (bytes_eq given.name name) refl (fits others parts.1 name text)
  where
    go : is_in_form given ≡ true → (b : Bool) → bytes_eq given.name name ≡ b
        → (given_value others name ≡ Some text → is_in_form (record { name = name; value = text }) ≡ true) → is_in_form (record { name = name; value = text }) ≡ true
    go here true same next =
        let name_is : given.name ≡ name = (bytes_eq-Decides given.name name).0 same in
        let value_is : given.value ≡ text = cc (ap (λ b. cond b (Some given.value) (given_value others name)) (sym same) ∙ is) in
        ap₂ (λ n v. is_in_form (record { name = n; value = v })) (sym name_is) (sym value_is) ∙ here
    go here false other next = next (ap (λ b. cond b (Some given.value) (given_value others name)) (sym other) ∙ is)

-- a text that is given is there
is_worded_by : (form : FormWord) (text : Option (List ℕ)) (given : Option (List ℕ)) → text_of given ≡ Some text → is_text_for (Some form) given ≡ true → is_worded form text ≡ true
is_worded_by form.Loops text given is worded = refl
is_worded_by form.Dxf text given is worded = refl
is_worded_by form.Pbm text given is worded = refl
is_worded_by form.Cxf (Some text) given is worded = refl
is_worded_by form.Cxf None None is worded = none_is_not worded
is_worded_by form.Cxf None (Some text) is worded = absurd (never (letters_of text) is)
  where
    never : (o : Option (List ℕ)) → option_map Some o ≡ Some None → ⊥
    never (Some x) same = cc
    never None same = cc

module _ (given : List GivenOption) (in_form : list_all is_in_form given ≡ true) where
  abbrev value : List ℕ → Option (List ℕ)
  value = given_value given

  pub bit_some : Is (value (codes "bit")) → Is (bit_of (value (codes "bit")))
  bit_some there = needed_some slope_of (value (codes "bit")) there (fits given in_form (codes "bit"))

  pub rmax_some : Is (value (codes "rmax")) → Is (rmax_of (value (codes "rmax")))
  rmax_some there = needed_some (number_of 1 8191) (value (codes "rmax")) there (fits given in_form (codes "rmax"))

  pub radius_some : Is (value (codes "radius")) → Is (radius_of (value (codes "radius")))
  radius_some there = needed_some (number_of 1 8191) (value (codes "radius")) there (fits given in_form (codes "radius"))

  pub step_some : Is (value (codes "step")) → Is (step_of (value (codes "step")))
  step_some there = needed_some (number_of 1 32767) (value (codes "step")) there (fits given in_form (codes "step"))

  pub units_some : Is (units_of (value (codes "units")))
  units_some = default_some _ units_named (value (codes "units")) (fits given in_form (codes "units"))

  pub at_some : Is (value (codes "at")) → Is (at_of (value (codes "at")))
  at_some there = needed_some point_of (value (codes "at")) there (fits given in_form (codes "at"))

  pub limit_some : Is (limit_of (value (codes "limit")))
  limit_some = default_some _ (number_of 1 32767) (value (codes "limit")) (fits given in_form (codes "limit"))

  pub safe_some : Is (safe_of (value (codes "safe")))
  safe_some = default_some _ (number_of 1 32767) (value (codes "safe")) (fits given in_form (codes "safe"))

  pub feed_some : Is (feed_of (value (codes "feed")))
  feed_some = default_some _ (number_of 1 10000) (value (codes "feed")) (fits given in_form (codes "feed"))

  pub pitch_some : Is (pitch_of (value (codes "pitch")))
  pitch_some = default_some _ (number_of 1 32767) (value (codes "pitch")) (fits given in_form (codes "pitch"))

  pub pocket_some : Is (pocket_of (value (codes "pocket")))
  pocket_some = default_some _ pocket_named (value (codes "pocket")) (fits given in_form (codes "pocket"))

  pub over_some : Is (over_of (value (codes "over")))
  over_some = default_some _ (number_of 1 8191) (value (codes "over")) (fits given in_form (codes "over"))

  pub depth_some : Is (value (codes "depth")) → Is (depth_of (value (codes "depth")))
  depth_some there = needed_some (number_of 1 32767) (value (codes "depth")) there (fits given in_form (codes "depth"))

  pub count_some : Is (value (codes "count")) → Is (count_of (value (codes "count")))
  count_some there = needed_some (number_of 1 80) (value (codes "count")) there (fits given in_form (codes "count"))

  chord_some : Is (chord_of (value (codes "chord")))
  chord_some = default_some _ (number_of 1 90) (value (codes "chord")) (fits given in_form (codes "chord"))

  snap_some : Is (snap_of (value (codes "snap")))
  snap_some = default_some _ (number_of 0 16) (value (codes "snap")) (fits given in_form (codes "snap"))

  pixel_some : Is (pixel_of (value (codes "pixel")))
  pixel_some = default_some _ (number_of 1 1000) (value (codes "pixel")) (fits given in_form (codes "pixel"))

  height_some : Is (height_of (value (codes "height")))
  height_some = default_some _ (number_of 1 32767) (value (codes "height")) (fits given in_form (codes "height"))

  width_some : Is (width_of (value (codes "width")))
  width_some = default_some _ (number_of 10 500) (value (codes "width")) (fits given in_form (codes "width"))

  charspace_some : Is (charspace_of (value (codes "charspace")))
  charspace_some = default_some _ (number_of 0 500) (value (codes "charspace")) (fits given in_form (codes "charspace"))

  wordspace_some : Is (wordspace_of (value (codes "wordspace")))
  wordspace_some = default_some _ (number_of 0 500) (value (codes "wordspace")) (fits given in_form (codes "wordspace"))

  linespace_some : Is (linespace_of (value (codes "linespace")))
  linespace_some = default_some _ (number_of 10 500) (value (codes "linespace")) (fits given in_form (codes "linespace"))

  justify_some : Is (justify_of (value (codes "justify")))
  justify_some = default_some _ (justify_named) (value (codes "justify")) (fits given in_form (codes "justify"))

  cross_some : Is (cross_of (value (codes "cross")))
  cross_some = default_some _ cross_named (value (codes "cross")) (fits given in_form (codes "cross"))

  yes_some : (name : List ℕ) → ((text : List ℕ) → value name ≡ Some text → Is (yes_named text)) → Is (yes_of (value name))
  yes_some name fit = default_some _ yes_named (value name) fit

  text_some : Is (text_of (value (codes "text")))
  text_some =
      default_some None (λ text. option_map Some (letters_of text)) (value (codes "text"))
      (λ text is. mapped_some (letters_of text) (fits given in_form (codes "text") text is))

  form_some : Is (form_of (value (codes "form")))
  form_some = default_some _ form_named (value (codes "form")) (fits given in_form (codes "form"))

  lettering_some : Is (lettering_of value)
  unfolding lettering_of
  lettering_some =
      then_some _ (height_of (value (codes "height"))) height_some (λ height.
      then_some _ (width_of (value (codes "width"))) width_some (λ width.
      then_some _ (charspace_of (value (codes "charspace"))) charspace_some (λ charspace.
      then_some _ (wordspace_of (value (codes "wordspace"))) wordspace_some (λ wordspace.
      then_some _ (linespace_of (value (codes "linespace"))) linespace_some (λ linespace.
      then_some _ (justify_of (value (codes "justify"))) justify_some (λ justify.
      then_some _ (yes_of (value (codes "mirror"))) (yes_some (codes "mirror") (fits given in_form (codes "mirror"))) (λ mirror.
      then_some _ (yes_of (value (codes "flip"))) (yes_some (codes "flip") (fits given in_form (codes "flip"))) (λ flip. refl))))))))

  pub shape_some : is_text_given given ≡ true → list_all (has_needed given) shape_options ≡ true → Is (shape_of value)
  unfolding shape_of shape_options
  shape_some worded needed =
      let drawing = both (is_some (value (codes "drawing"))) _ needed in
      then_some_is _ (form_of (value (codes "form"))) form_some (λ form form_is.
      then_some _ (units_of (value (codes "units"))) units_some (λ units.
      then_some _ (chord_of (value (codes "chord"))) chord_some (λ chord.
      then_some _ (snap_of (value (codes "snap"))) snap_some (λ snap.
      then_some _ (pixel_of (value (codes "pixel"))) pixel_some (λ pixel.
      then_some_is _ (text_of (value (codes "text"))) text_some (λ text text_is.
      then_some _ (lettering_of value) lettering_some (λ lettering.
      then_some _ (cross_of (value (codes "cross"))) cross_some (λ cross.
      then_some _ (value (codes "drawing")) drawing.0 (λ drawing.
      cond_some _ _ (is_worded_by form text (value (codes "text")) text_is (ap (λ o. is_text_for o (value (codes "text"))) (sym form_is) ∙ worded)))))))))))

-- ---- the form of a drawing's words

-- what stands behind a value that is there
then_by : {A B : Type 0} {P : Type 0} (next : A → Option B) (o : Option A) (y : B) → option_and_then next o ≡ Some y → ((x : A) → o ≡ Some x → next x ≡ Some y → P) → P
then_by next (Some x) y is later = later x refl is
then_by next None y is later = absurd (some≢none y is)

-- where it isn't refused, it is what stands in the first branch
cond_by : {A : Type 0} (test : Bool) (x y : A) → (if test then Some x else None) ≡ Some y → Some x ≡ Some y
cond_by true x y is = is
cond_by false x y is = absurd (some≢none y is)

-- a drawing's form is the one that is given
pub shape_form : (value : List ℕ → Option (List ℕ)) (shape : DrawingWords) → shape_of value ≡ Some shape → form_of (value (codes "form")) ≡ Some shape.form
unfolding shape_of
shape_form value shape is =
    then_by _ (form_of (value (codes "form"))) shape is (λ form form_is is.
    then_by _ (units_of (value (codes "units"))) shape is (λ units _ is.
    then_by _ (chord_of (value (codes "chord"))) shape is (λ chord _ is.
    then_by _ (snap_of (value (codes "snap"))) shape is (λ snap _ is.
    then_by _ (pixel_of (value (codes "pixel"))) shape is (λ pixel _ is.
    then_by _ (text_of (value (codes "text"))) shape is (λ text _ is.
    then_by _ (lettering_of value) shape is (λ lettering _ is.
    then_by _ (cross_of (value (codes "cross"))) shape is (λ cross _ is.
    then_by _ (value (codes "drawing")) shape is (λ drawing _ is.
    form_is ∙ ap (option_map (λ words. words.form)) (cond_by (is_worded form text) _ shape is))))))))))
