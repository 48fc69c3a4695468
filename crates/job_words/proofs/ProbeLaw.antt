-- Words `--name=value` for the options of `probe` make its request.
use Rattle.std.proofs.Common.{◌≡◌, ℕ, true, refl, List, codes, Option, Some, None, is_some}
use Rattle.std.specs.List.{list_all}
use Rattle.clap.proofs.WalkLemmas.{both}
use Rattle.plane_exact.specs.Plane.{GridPoint}
use Rattle.job_words.specs.Commands.Probe.{probe, probe_by, probe_options, probe_request}
use Rattle.job_words.specs.Plain.{GivenOption, IsGiven, given_value, is_in_form, is_text_given}
use Rattle.job_words.specs.Shape.{shape_options}
use Rattle.job_words.specs.declared.request.DrawingWords.{DrawingWords}
use Rattle.job_words.proofs.Forms.{Is, at_some, bit_some, limit_some, none_is_not, rmax_some, shape_some}
use Rattle.job_words.proofs.Requests.{IsLawful}

probe_some : (at : Option GridPoint) (bit : Option (ℕ × ℕ)) (rmax limit : Option ℕ) (shape : Option DrawingWords)
    → Is at → Is bit → Is rmax → Is limit → Is shape → Is (probe_by at bit rmax limit shape)
probe_some (Some at) (Some bit) (Some rmax) (Some limit) (Some shape) a b r l s = refl
probe_some None bit rmax limit shape a b r l s = none_is_not a
probe_some (Some at) None rmax limit shape a b r l s = none_is_not b
probe_some (Some at) (Some bit) None limit shape a b r l s = none_is_not r
probe_some (Some at) (Some bit) (Some rmax) None shape a b r l s = none_is_not l
probe_some (Some at) (Some bit) (Some rmax) (Some limit) None a b r l s = none_is_not s

request_in_form : (given : List GivenOption) → list_all is_in_form given ≡ true → is_text_given given ≡ true → probe.fits (given_value given) ≡ true → IsGiven probe.options given → Is (probe.request (given_value given))
unfolding probe_options probe_request
request_in_form given in_form worded fits are =
    let value = given_value given in
    let at = both (is_some (value (codes "at"))) _ are.needed in
    let bit = both (is_some (value (codes "bit"))) _ at.1 in
    let rmax = both (is_some (value (codes "rmax"))) _ bit.1 in
    probe_some _ _ _ _ _ (at_some given in_form at.0) (bit_some given in_form bit.0) (rmax_some given in_form rmax.0)
    (limit_some given in_form) (shape_some given in_form worded rmax.1)

pub probe_law : IsLawful probe
unfolding probe_options shape_options
probe_law = record { named = refl; plain = refl; in_form = request_in_form }
