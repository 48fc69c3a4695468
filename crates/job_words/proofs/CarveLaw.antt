-- Words `--name=value` for the options of `carve` make its request.
use Rattle.std.proofs.Common.{◌≡◌, ℕ, true, refl, List, codes, Option, Some, None, is_some}
use Rattle.std.specs.List.{list_all}
use Rattle.clap.proofs.WalkLemmas.{both}
use Rattle.job_words.specs.Commands.Carve.{carve, carve_by, carve_options, carve_request}
use Rattle.job_words.specs.Plain.{GivenOption, IsGiven, given_value, is_in_form, is_text_given}
use Rattle.job_words.specs.Shape.{shape_options}
use Rattle.job_words.specs.declared.request.DrawingWords.{DrawingWords}
use Rattle.job_words.specs.declared.request.PocketWord.{PocketWord}
use Rattle.job_words.proofs.Forms.{Is, bit_some, feed_some, limit_some, none_is_not, over_some, pitch_some, pocket_some, rmax_some, safe_some, shape_some, step_some}
use Rattle.job_words.proofs.Requests.{IsLawful}

carve_some : (bit : Option (ℕ × ℕ)) (rmax step limit safe feed pitch : Option ℕ) (lines : Option PocketWord) (over : Option ℕ) (shape : Option DrawingWords)
    → Is bit → Is rmax → Is step → Is limit → Is safe → Is feed → Is pitch → Is lines → Is over → Is shape
    → Is (carve_by bit rmax step limit safe feed pitch lines over shape)
carve_some (Some bit) (Some rmax) (Some step) (Some limit) (Some safe) (Some feed) (Some pitch) (Some lines) (Some over) (Some shape) b r t l s f p k o d = refl
carve_some None rmax step limit safe feed pitch lines over shape b r t l s f p k o d = none_is_not b
carve_some (Some bit) None step limit safe feed pitch lines over shape b r t l s f p k o d = none_is_not r
carve_some (Some bit) (Some rmax) None limit safe feed pitch lines over shape b r t l s f p k o d = none_is_not t
carve_some (Some bit) (Some rmax) (Some step) None safe feed pitch lines over shape b r t l s f p k o d = none_is_not l
carve_some (Some bit) (Some rmax) (Some step) (Some limit) None feed pitch lines over shape b r t l s f p k o d = none_is_not s
carve_some (Some bit) (Some rmax) (Some step) (Some limit) (Some safe) None pitch lines over shape b r t l s f p k o d = none_is_not f
carve_some (Some bit) (Some rmax) (Some step) (Some limit) (Some safe) (Some feed) None lines over shape b r t l s f p k o d = none_is_not p
carve_some (Some bit) (Some rmax) (Some step) (Some limit) (Some safe) (Some feed) (Some pitch) None over shape b r t l s f p k o d = none_is_not k
carve_some (Some bit) (Some rmax) (Some step) (Some limit) (Some safe) (Some feed) (Some pitch) (Some lines) None shape b r t l s f p k o d = none_is_not o
carve_some (Some bit) (Some rmax) (Some step) (Some limit) (Some safe) (Some feed) (Some pitch) (Some lines) (Some over) None b r t l s f p k o d = none_is_not d

request_in_form : (given : List GivenOption) → list_all is_in_form given ≡ true → is_text_given given ≡ true → carve.fits (given_value given) ≡ true → IsGiven carve.options given → Is (carve.request (given_value given))
unfolding carve_options carve_request
request_in_form given in_form worded fits are =
    let value = given_value given in
    let bit = both (is_some (value (codes "bit"))) _ are.needed in
    let rmax = both (is_some (value (codes "rmax"))) _ bit.1 in
    let step = both (is_some (value (codes "step"))) _ rmax.1 in
    carve_some _ _ _ _ _ _ _ _ _ _ (bit_some given in_form bit.0) (rmax_some given in_form rmax.0) (step_some given in_form step.0)
    (limit_some given in_form) (safe_some given in_form) (feed_some given in_form) (pitch_some given in_form) (pocket_some given in_form) (over_some given in_form) (shape_some given in_form worded step.1)

pub carve_law : IsLawful carve
unfolding carve_options shape_options
carve_law = record { named = refl; plain = refl; in_form = request_in_form }
