-- Words `--name=value` for the options of `contacts` make its request.
use Rattle.std.proofs.Common.{◌≡◌, ℕ, true, refl, List, codes, Option, Some, None, is_some}
use Rattle.std.specs.List.{list_all}
use Rattle.clap.proofs.WalkLemmas.{both}
use Rattle.job_words.specs.Commands.Contacts.{contacts, contacts_by, contacts_options, contacts_request}
use Rattle.job_words.specs.Plain.{GivenOption, IsGiven, given_value, is_in_form, is_text_given}
use Rattle.job_words.specs.Shape.{shape_options}
use Rattle.job_words.specs.declared.request.DrawingWords.{DrawingWords}
use Rattle.job_words.proofs.Forms.{Is, none_is_not, rmax_some, shape_some, step_some}
use Rattle.job_words.proofs.Requests.{IsLawful}

contacts_some : (step rmax : Option ℕ) (shape : Option DrawingWords) → Is step → Is rmax → Is shape → Is (contacts_by step rmax shape)
contacts_some (Some step) (Some rmax) (Some shape) t r s = refl
contacts_some None rmax shape t r s = none_is_not t
contacts_some (Some step) None shape t r s = none_is_not r
contacts_some (Some step) (Some rmax) None t r s = none_is_not s

request_in_form : (given : List GivenOption) → list_all is_in_form given ≡ true → is_text_given given ≡ true → contacts.fits (given_value given) ≡ true → IsGiven contacts.options given → Is (contacts.request (given_value given))
unfolding contacts_options contacts_request
request_in_form given in_form worded fits are =
    let value = given_value given in
    let step = both (is_some (value (codes "step"))) _ are.needed in
    let rmax = both (is_some (value (codes "rmax"))) _ step.1 in
    contacts_some _ _ _ (step_some given in_form step.0) (rmax_some given in_form rmax.0) (shape_some given in_form worded rmax.1)

pub contacts_law : IsLawful contacts
unfolding contacts_options shape_options
contacts_law = record { named = refl; plain = refl; in_form = request_in_form }
