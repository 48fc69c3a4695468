-- Words `--name=value` for the options of `flatten` make its request.
use Rattle.std.proofs.Common.{◌≡◌, true, refl, List}
use Rattle.std.specs.List.{list_all}
use Rattle.job_words.specs.Commands.Flatten.{flatten, flatten_options, flatten_request}
use Rattle.job_words.specs.Plain.{GivenOption, IsGiven, given_value, is_in_form, is_text_given}
use Rattle.job_words.specs.Shape.{shape_of, shape_options}
use Rattle.job_words.proofs.Forms.{Is, shape_some, then_some}
use Rattle.job_words.proofs.Requests.{IsLawful}

request_in_form : (given : List GivenOption) → list_all is_in_form given ≡ true → is_text_given given ≡ true → flatten.fits (given_value given) ≡ true → IsGiven flatten.options given → Is (flatten.request (given_value given))
unfolding flatten_options flatten_request
request_in_form given in_form worded fits are = then_some _ (shape_of (given_value given)) (shape_some given in_form worded are.needed) (λ shape. refl)

pub flatten_law : IsLawful flatten
unfolding flatten_options shape_options
flatten_law = record { named = refl; plain = refl; in_form = request_in_form }
