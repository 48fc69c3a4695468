-- Words `--name=value` for the options of `check` make its request.
use Rattle.std.proofs.Common.{◌≡◌, ℕ, true, refl, List, codes, Option, Some, None, is_some}
use Rattle.std.specs.List.{list_all}
use Rattle.clap.proofs.WalkLemmas.{both}
use Rattle.job_words.specs.Commands.Check.{check, check_by, check_options, check_request}
use Rattle.job_words.specs.Plain.{GivenOption, IsGiven, given_value, is_in_form, is_text_given}
use Rattle.job_words.specs.Shape.{shape_options}
use Rattle.job_words.specs.declared.request.DrawingWords.{DrawingWords}
use Rattle.job_words.proofs.Forms.{Is, bit_some, none_is_not, rmax_some, shape_some}
use Rattle.job_words.proofs.Requests.{IsLawful}

check_some : (bit : Option (ℕ × ℕ)) (rmax : Option ℕ) (shape : Option DrawingWords) (code : Option (List ℕ))
    → Is bit → Is rmax → Is shape → Is code → Is (check_by bit rmax shape code)
check_some (Some bit) (Some rmax) (Some shape) (Some code) b r s c = refl
check_some None rmax shape code b r s c = none_is_not b
check_some (Some bit) None shape code b r s c = none_is_not r
check_some (Some bit) (Some rmax) None code b r s c = none_is_not s
check_some (Some bit) (Some rmax) (Some shape) None b r s c = none_is_not c

request_in_form : (given : List GivenOption) → list_all is_in_form given ≡ true → is_text_given given ≡ true → check.fits (given_value given) ≡ true → IsGiven check.options given → Is (check.request (given_value given))
unfolding check_options check_request
request_in_form given in_form worded fits are =
    let value = given_value given in
    let bit = both (is_some (value (codes "bit"))) _ are.needed in
    let rmax = both (is_some (value (codes "rmax"))) _ bit.1 in
    let code = both (is_some (value (codes "code"))) _ rmax.1 in
    check_some _ _ _ _ (bit_some given in_form bit.0) (rmax_some given in_form rmax.0) (shape_some given in_form worded code.1) code.0

pub check_law : IsLawful check
unfolding check_options shape_options
check_law = record { named = refl; plain = refl; in_form = request_in_form }
