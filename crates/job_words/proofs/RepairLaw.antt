-- Words `--name=value` for the options of `repair` make its request.
use Rattle.std.proofs.Common.{◌≡◌, ℕ, true, refl, List, codes, Option, Some, None, is_some}
use Rattle.std.specs.List.{list_all}
use Rattle.clap.proofs.WalkLemmas.{both}
use Rattle.job_words.specs.Commands.Repair.{repair, repair_by, repair_options, repair_request}
use Rattle.job_words.specs.Plain.{GivenOption, IsGiven, given_value, is_in_form, is_text_given}
use Rattle.job_words.specs.Shape.{shape_options}
use Rattle.job_words.specs.declared.request.DrawingWords.{DrawingWords}
use Rattle.job_words.proofs.Forms.{Is, bit_some, feed_some, none_is_not, rmax_some, safe_some, shape_some}
use Rattle.job_words.proofs.Requests.{IsLawful}

repair_some : (bit : Option (ℕ × ℕ)) (rmax safe feed : Option ℕ) (shape : Option DrawingWords) (code : Option (List ℕ))
    → Is bit → Is rmax → Is safe → Is feed → Is shape → Is code → Is (repair_by bit rmax safe feed shape code)
repair_some (Some bit) (Some rmax) (Some safe) (Some feed) (Some shape) (Some code) b r s f d c = refl
repair_some None rmax safe feed shape code b r s f d c = none_is_not b
repair_some (Some bit) None safe feed shape code b r s f d c = none_is_not r
repair_some (Some bit) (Some rmax) None feed shape code b r s f d c = none_is_not s
repair_some (Some bit) (Some rmax) (Some safe) None shape code b r s f d c = none_is_not f
repair_some (Some bit) (Some rmax) (Some safe) (Some feed) None code b r s f d c = none_is_not d
repair_some (Some bit) (Some rmax) (Some safe) (Some feed) (Some shape) None b r s f d c = none_is_not c

request_in_form : (given : List GivenOption) → list_all is_in_form given ≡ true → is_text_given given ≡ true → repair.fits (given_value given) ≡ true → IsGiven repair.options given → Is (repair.request (given_value given))
unfolding repair_options repair_request
request_in_form given in_form worded fits are =
    let value = given_value given in
    let bit = both (is_some (value (codes "bit"))) _ are.needed in
    let rmax = both (is_some (value (codes "rmax"))) _ bit.1 in
    let code = both (is_some (value (codes "code"))) _ rmax.1 in
    repair_some _ _ _ _ _ _ (bit_some given in_form bit.0) (rmax_some given in_form rmax.0) (safe_some given in_form) (feed_some given in_form)
    (shape_some given in_form worded code.1) code.0

pub repair_law : IsLawful repair
unfolding repair_options shape_options
repair_law = record { named = refl; plain = refl; in_form = request_in_form }
