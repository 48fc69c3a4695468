-- Words `--name=value` for the options of `cover` make its request.
use Rattle.std.proofs.Common.{◌≡◌, ℕ, true, refl, List, codes, Option, Some, None, is_some}
use Rattle.std.specs.List.{list_all}
use Rattle.clap.proofs.WalkLemmas.{both}
use Rattle.job_words.specs.Commands.Cover.{cover, cover_by, cover_options, cover_request}
use Rattle.job_words.specs.Plain.{GivenOption, IsGiven, given_value, is_in_form, is_text_given}
use Rattle.job_words.specs.Shape.{shape_options}
use Rattle.job_words.specs.declared.request.DrawingWords.{DrawingWords}
use Rattle.job_words.proofs.Forms.{Is, bit_some, none_is_not, pitch_some, rmax_some, shape_some}
use Rattle.job_words.proofs.Requests.{IsLawful}

cover_some : (bit : Option (ℕ × ℕ)) (rmax pitch : Option ℕ) (shape : Option DrawingWords) (code : Option (List ℕ))
    → Is bit → Is rmax → Is pitch → Is shape → Is code → Is (cover_by bit rmax pitch shape code)
cover_some (Some bit) (Some rmax) (Some pitch) (Some shape) (Some code) b r p s c = refl
cover_some None rmax pitch shape code b r p s c = none_is_not b
cover_some (Some bit) None pitch shape code b r p s c = none_is_not r
cover_some (Some bit) (Some rmax) None shape code b r p s c = none_is_not p
cover_some (Some bit) (Some rmax) (Some pitch) None code b r p s c = none_is_not s
cover_some (Some bit) (Some rmax) (Some pitch) (Some shape) None b r p s c = none_is_not c

request_in_form : (given : List GivenOption) → list_all is_in_form given ≡ true → is_text_given given ≡ true → cover.fits (given_value given) ≡ true → IsGiven cover.options given → Is (cover.request (given_value given))
unfolding cover_options cover_request
request_in_form given in_form worded fits are =
    let value = given_value given in
    let bit = both (is_some (value (codes "bit"))) _ are.needed in
    let rmax = both (is_some (value (codes "rmax"))) _ bit.1 in
    let code = both (is_some (value (codes "code"))) _ rmax.1 in
    cover_some _ _ _ _ _ (bit_some given in_form bit.0) (rmax_some given in_form rmax.0) (pitch_some given in_form) (shape_some given in_form worded code.1) code.0

pub cover_law : IsLawful cover
unfolding cover_options shape_options
cover_law = record { named = refl; plain = refl; in_form = request_in_form }
