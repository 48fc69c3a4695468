-- Words `--name=value` for the options of `moves` make its request.
use Rattle.std.proofs.Common.{◌≡◌, ℕ, true, refl, List, codes, Option, Some, None, is_some}
use Rattle.std.specs.List.{list_all}
use Rattle.clap.proofs.WalkLemmas.{both}
use Rattle.grid_num.specs.declared.units.Units.{Units}
use Rattle.job_words.specs.Commands.Moves.{moves, moves_by, moves_options, moves_request}
use Rattle.job_words.specs.Plain.{GivenOption, IsGiven, given_value, is_in_form, is_text_given}
use Rattle.job_words.proofs.Forms.{Is, none_is_not, units_some}
use Rattle.job_words.proofs.Requests.{IsLawful}

moves_some : (units : Option Units) (code : Option (List ℕ)) → Is units → Is code → Is (moves_by units code)
moves_some (Some units) (Some code) u c = refl
moves_some None code u c = none_is_not u
moves_some (Some units) None u c = none_is_not c

request_in_form : (given : List GivenOption) → list_all is_in_form given ≡ true → is_text_given given ≡ true → moves.fits (given_value given) ≡ true → IsGiven moves.options given → Is (moves.request (given_value given))
unfolding moves_options moves_request
request_in_form given in_form worded fits are =
    moves_some _ _ (units_some given in_form) (both (is_some (given_value given (codes "code"))) _ are.needed).0

pub moves_law : IsLawful moves
unfolding moves_options
moves_law = record { named = refl; plain = refl; in_form = request_in_form }
