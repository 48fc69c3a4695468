-- Words `--name=value` for the options of `flat` make its request.
use Rattle.std.proofs.Common.{◌≡◌, ℕ, cond, true, refl, ap, List, codes, Option, Some, None, is_some}
use Rattle.std.specs.List.{list_all}
use Rattle.clap.proofs.WalkLemmas.{both}
use Rattle.job_words.specs.Commands.Flat.{flat, flat_by, flat_options, flat_request, has_lines_given}
use Rattle.job_words.specs.Plain.{GivenOption, IsGiven, given_value, is_in_form, is_text_given}
use Rattle.job_words.specs.Shape.{shape_options}
use Rattle.job_words.specs.declared.request.DrawingWords.{DrawingWords}
use Rattle.job_words.specs.declared.request.PocketWord.{PocketWord}
use Rattle.job_words.specs.declared.request.Request.TheVariants as request
use Rattle.job_words.proofs.Forms.{Is, bit_some, feed_some, limit_some, none_is_not, over_some, pitch_some, radius_some, rmax_some, safe_some, shape_some}
use Rattle.job_words.proofs.Requests.{IsLawful}

flat_some : (bit : Option (ℕ × ℕ)) (rmax radius limit over safe feed pitch : Option ℕ) (lines : Option PocketWord) (shape : Option DrawingWords)
    → Is bit → Is rmax → Is radius → Is limit → Is over → Is safe → Is feed → Is pitch → Is shape → has_lines_given lines ≡ true
    → Is (flat_by bit rmax radius limit over safe feed pitch lines shape)
flat_some (Some bit) (Some rmax) (Some radius) (Some limit) (Some over) (Some safe) (Some feed) (Some pitch) (Some lines) (Some shape) b r t l o s f p d fits =
    ap (λ x. is_some (cond x (Some (request.Flat shape bit rmax radius limit over safe feed pitch lines)) None)) fits
flat_some None rmax radius limit over safe feed pitch lines shape b r t l o s f p d fits = none_is_not b
flat_some (Some bit) None radius limit over safe feed pitch lines shape b r t l o s f p d fits = none_is_not r
flat_some (Some bit) (Some rmax) None limit over safe feed pitch lines shape b r t l o s f p d fits = none_is_not t
flat_some (Some bit) (Some rmax) (Some radius) None over safe feed pitch lines shape b r t l o s f p d fits = none_is_not l
flat_some (Some bit) (Some rmax) (Some radius) (Some limit) None safe feed pitch lines shape b r t l o s f p d fits = none_is_not o
flat_some (Some bit) (Some rmax) (Some radius) (Some limit) (Some over) None feed pitch lines shape b r t l o s f p d fits = none_is_not s
flat_some (Some bit) (Some rmax) (Some radius) (Some limit) (Some over) (Some safe) None pitch lines shape b r t l o s f p d fits = none_is_not f
flat_some (Some bit) (Some rmax) (Some radius) (Some limit) (Some over) (Some safe) (Some feed) None lines shape b r t l o s f p d fits = none_is_not p
flat_some (Some bit) (Some rmax) (Some radius) (Some limit) (Some over) (Some safe) (Some feed) (Some pitch) None shape b r t l o s f p d fits = none_is_not fits
flat_some (Some bit) (Some rmax) (Some radius) (Some limit) (Some over) (Some safe) (Some feed) (Some pitch) (Some lines) None b r t l o s f p d fits = none_is_not d

request_in_form : (given : List GivenOption) → list_all is_in_form given ≡ true → is_text_given given ≡ true → flat.fits (given_value given) ≡ true → IsGiven flat.options given → Is (flat.request (given_value given))
unfolding flat_options flat_request
request_in_form given in_form worded fits are =
    let value = given_value given in
    let bit = both (is_some (value (codes "bit"))) _ are.needed in
    let rmax = both (is_some (value (codes "rmax"))) _ bit.1 in
    let radius = both (is_some (value (codes "radius"))) _ rmax.1 in
    flat_some _ _ _ _ _ _ _ _ _ _ (bit_some given in_form bit.0) (rmax_some given in_form rmax.0) (radius_some given in_form radius.0)
    (limit_some given in_form) (over_some given in_form) (safe_some given in_form) (feed_some given in_form) (pitch_some given in_form)
    (shape_some given in_form worded radius.1) fits

pub flat_law : IsLawful flat
unfolding flat_options shape_options
flat_law = record { named = refl; plain = refl; in_form = request_in_form }
