-- Words `--name=value` for the options of `strokes` make its request.
use Rattle.std.proofs.Common.{◌≡◌, ◌∙◌, ℕ, cond, true, refl, sym, ap, ap₂, List, codes, Option, Some, None, is_some}
use Rattle.std.specs.List.{list_all}
use Rattle.std.specs.Prelude.{◌&&◌}
use Rattle.clap.proofs.WalkLemmas.{both}
use Rattle.job_words.specs.Commands.Strokes.{has_strokes, has_strokes_given, is_narrow_given, strokes, strokes_by, strokes_options, strokes_request}
use Rattle.job_words.specs.Plain.{GivenOption, IsGiven, given_value, is_in_form, is_text_given}
use Rattle.job_words.specs.Shape.{shape_of, shape_options}
use Rattle.job_words.specs.Values.{form_of}
use Rattle.job_words.specs.declared.request.DrawingWords.{DrawingWords}
use Rattle.job_words.specs.declared.request.FormWord.{FormWord}
use Rattle.job_words.specs.declared.request.Request.TheVariants as request
use Rattle.job_words.proofs.Forms.{Is, bit_some, depth_some, feed_some, none_is_not, pitch_some, rmax_some, safe_some, shape_form, shape_some}
use Rattle.job_words.proofs.Requests.{IsLawful}

-- a drawing's form is the one that is given
form_fits : (form : Option FormWord) (shape : DrawingWords) → form ≡ Some shape.form → has_strokes_given form ≡ true → has_strokes shape.form ≡ true
form_fits form shape same fits = ap has_strokes_given (sym same) ∙ fits

strokes_some : (bit : Option (ℕ × ℕ)) (rmax depth safe feed pitch : Option ℕ) (form : Option FormWord) (shape : Option DrawingWords)
    → Is bit → Is rmax → Is depth → Is safe → Is feed → Is pitch → Is shape
    → ((there : DrawingWords) → shape ≡ Some there → form ≡ Some there.form) → has_strokes_given form ≡ true → is_narrow_given bit rmax depth ≡ true
    → Is (strokes_by bit rmax depth safe feed pitch shape)
strokes_some (Some bit) (Some rmax) (Some depth) (Some safe) (Some feed) (Some pitch) form (Some shape) b r z s f p d same fits narrow =
    ap₂ (λ x y. is_some (cond (x && y) (Some (request.Strokes shape bit rmax depth safe feed pitch)) None)) (form_fits form shape (same shape refl) fits) narrow
strokes_some None rmax depth safe feed pitch form shape b r z s f p d same fits narrow = none_is_not b
strokes_some (Some bit) None depth safe feed pitch form shape b r z s f p d same fits narrow = none_is_not r
strokes_some (Some bit) (Some rmax) None safe feed pitch form shape b r z s f p d same fits narrow = none_is_not z
strokes_some (Some bit) (Some rmax) (Some depth) None feed pitch form shape b r z s f p d same fits narrow = none_is_not s
strokes_some (Some bit) (Some rmax) (Some depth) (Some safe) None pitch form shape b r z s f p d same fits narrow = none_is_not f
strokes_some (Some bit) (Some rmax) (Some depth) (Some safe) (Some feed) None form shape b r z s f p d same fits narrow = none_is_not p
strokes_some (Some bit) (Some rmax) (Some depth) (Some safe) (Some feed) (Some pitch) form None b r z s f p d same fits narrow = none_is_not d

request_in_form : (given : List GivenOption) → list_all is_in_form given ≡ true → is_text_given given ≡ true → strokes.fits (given_value given) ≡ true → IsGiven strokes.options given → Is (strokes.request (given_value given))
unfolding strokes_options strokes_request
request_in_form given in_form worded fits are =
    let value = given_value given in
    let bit = both (is_some (value (codes "bit"))) _ are.needed in
    let rmax = both (is_some (value (codes "rmax"))) _ bit.1 in
    let depth = both (is_some (value (codes "depth"))) _ rmax.1 in
    let fit = both (has_strokes_given (form_of (value (codes "form")))) _ fits in
    strokes_some _ _ _ _ _ _ (form_of (value (codes "form"))) (shape_of value) (bit_some given in_form bit.0) (rmax_some given in_form rmax.0) (depth_some given in_form depth.0)
    (safe_some given in_form) (feed_some given in_form) (pitch_some given in_form) (shape_some given in_form worded depth.1)
    (shape_form value) fit.0 fit.1

pub strokes_law : IsLawful strokes
unfolding strokes_options shape_options
strokes_law = record { named = refl; plain = refl; in_form = request_in_form }
