-- Words `--name=value` for the option of `trial` make its request.
use Rattle.std.proofs.Common.{◌≡◌, true, refl, List, codes, is_some}
use Rattle.std.specs.List.{list_all}
use Rattle.clap.proofs.WalkLemmas.{both}
use Rattle.job_words.specs.Commands.Trial.{trial, trial_options, trial_request}
use Rattle.job_words.specs.Plain.{GivenOption, IsGiven, given_value, is_in_form, is_text_given}
use Rattle.job_words.specs.Values.{count_of}
use Rattle.job_words.proofs.Forms.{Is, count_some, then_some}
use Rattle.job_words.proofs.Requests.{IsLawful}

request_in_form : (given : List GivenOption) → list_all is_in_form given ≡ true → is_text_given given ≡ true → trial.fits (given_value given) ≡ true → IsGiven trial.options given → Is (trial.request (given_value given))
unfolding trial_options trial_request
request_in_form given in_form worded fits are =
    let there = both (is_some (given_value given (codes "count"))) _ are.needed in
    then_some _ (count_of (given_value given (codes "count"))) (count_some given in_form there.0) (λ count. refl)

pub trial_law : IsLawful trial
unfolding trial_options
trial_law = record { named = refl; plain = refl; in_form = request_in_form }
